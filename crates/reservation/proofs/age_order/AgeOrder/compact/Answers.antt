use Rattle.std.proofs.Common.{◌≡◌, true, ℕ, ◌+◌, ◌<◌, sym, ap, ◌∙◌, ⊎_elim, arith}
use Rattle.std.proofs.lemmas.Bool.{cases_lt}
use Rattle.std.proofs.lemmas.List.{get_or-take}
use Rattle.arrayvec.specs.ArrayVec.{array_vec_len}
use Rattle.reservation.specs.Ages.{member, rank_of}
use Rattle.reservation.proofs.Ages.{item_at, ranked_in, compacting, passed, moved_one, named, all_ranked, all_waits}
use Rattle.reservation.proofs.Ranks.{count_le, cut, longer}
use Rattle.reservation.proofs.age_order.AgeOrder.compact.Goals as goal
use Rattle.reservation.proofs.age_order.AgeOrder.compact.Goals.{then-is_taken, else-is_taken}

pub loop-rank-init : goal.loop-rank-init
loop-rank-init c = compacting c.args.self.now

pub loop-rank-preserved : goal.loop-rank-preserved
loop-rank-preserved c =
    let a = c.args.self.now in
    let s = c.loop-rank.self in
    let t = c.loop-rank.lowest in
    let p = c.loop-rank.rank in
    elim c.if-is_taken.branch [
      | then-is_taken w ↦ named a _ w.move_down.new.self _ (t + 1) (p + 1) w.self-is w.lowest-is
          (moved_one a s w.move_down.new.self t p c.loop-rank.invariant (sym c.is_taken.ensures ∙ w.if-is_taken.true) w.move_down.ensures.wide.0
          w.move_down.ensures.same w.move_down.ensures.wide.1 w.move_down.ensures.moved)
      | else-is_taken w ↦ named a _ s _ t (p + 1) w.self-is w.lowest-is (passed a s t p c.loop-rank.invariant (sym c.is_taken.ensures ∙ w.if-is_taken.false))
    ]

pub invariant_of-self : goal.invariant_of-self
invariant_of-self c =
    let s = c.loop-rank.self in
    let t = c.loop-rank.lowest in
    let i = c.loop-rank.invariant in
    let low : (g : ℕ) → member s g ≡ true → rank_of s g < t = λ g m.
    let (l, h) = (ranked_in s).ranked g m in
    let long = i.long in
    ⊎_elim (λ x. x) (λ x. let y = i.gap g m x in absurd (omega arith)) (cases_lt (rank_of s g) t) in
    let kept : (p : ℕ) → p < t → item_at c.truncate.new.self.items p ≡ item_at s.groups.items p = λ p l.
    ap (λ xs. item_at xs p) c.truncate.ensures.items ∙ get_or-take t s.groups.items p 0 l in
    let short = c.truncate.ensures.len in
    let down = i.low in
    let few = s.few in
    let long = i.long in
    let n : array_vec_len c.truncate.new.self ≡ t = omega arith in
    let q = longer _ _ _ _ _ _ n (cut _ _ _ _ _ _ t (ranked_in s) low kept) in
    record { few = omega arith; ranked = all_ranked _ _ _ _ q; waits = all_waits _ _ _ _ q }

pub returns-clause-room : goal.returns-clause-room
returns-clause-room c =
    let i = c.loop-rank.invariant in
    let t = i.total in
    omega (arith, count_le)
