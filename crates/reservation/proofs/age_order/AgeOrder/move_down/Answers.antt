use Rattle.std.proofs.Common.{◌≡◌, ℕ, Bool, false, Some, get_or, length, set, ap, ◌∙◌, arith, rules, length-set}
use Rattle.std.specs.List.{refill}
use Rattle.std.proofs.lemmas.Grind.{common_steps}
use Rattle.words.specs.Points.{at}
use Rattle.reservation.specs.Sets.{has}
use Rattle.reservation.proofs.Ages.{moved_down, same_moved, ranked_in, at_rank, item_at, all_ranked, all_waits}
use Rattle.reservation.proofs.Ranks.{longer}
use Rattle.reservation.proofs.age_order.AgeOrder.move_down.Goals as goal

-- the ranks that wait after both writes
both_put : (W V X : ℕ → Bool) (p t : ℕ) (w : Bool) → w ≡ W p → V ≡ at W p false → X ≡ at V t w → X ≡ at (at W p false) t (W p)
both_put W V X p t w a b d = d ∙ ap (λ f. at f t w) b ∙ ap (at (at W p false) t) a

pub invariant_of-self : goal.invariant_of-self
invariant_of-self c =
    let s = c.args.self.now in
    let p = c.args.from in
    let t = c.args.to in
    let few = s.few in
    let (m, e) = at_rank s p c.requires.here in
    let (l, h) = (ranked_in s).ranked (item_at s.groups.items p) m in
    let d = c.requires.down in
    let xs = set c.deref_mut.result.now t (get_or c.deref.result.now p 0) in
    let same : refill (length s.groups.items) s.groups.items xs ≡ set s.groups.items t (item_at s.groups.items p) = grind (arith, common_steps) in
    let (q, within, order, waiting) = moved_down s p t (set s.ranks c.from.result (Some t)) (has c.put-2.new.self) _
    c.requires.here d c.requires.gap (omega arith) (cc) (both_put (has s.waiting) (has c.put.new.self) _ p t c.has-wait.result c.has-wait.ensures c.put.ensures c.put-2.ensures) same in
    let long = ap length same ∙ length-set s.groups.items t (item_at s.groups.items p) in
    record { few = omega arith; ranked = all_ranked _ _ _ _ (longer _ _ _ _ _ _ long q); waits = all_waits _ _ _ _ q }

pub returns-clause-same : goal.returns-clause-same
returns-clause-same c = search (rules, same_moved)
