use Rattle.std.proofs.Common.{◌≡◌, length, sym, ap, ◌∙◌, arith}
use Rattle.words.specs.Refusals.{Accepted}
use Rattle.fills.specs.declared.fills.Fills.{Fills}
use Rattle.fills.specs.Fills.{fill_of, add_refusals}
use Rattle.fills.specs.Lists.{first_fill, once}
use Rattle.fills.proofs.Lists.{waiting_pages, fill_added, once_added, not_waiting}
use Rattle.fills.proofs.fills.Fills.add.Goals as goal

-- where a fill may be taken in the vector is not full
not_full : (s : Fills) (p : _) → Accepted (add_refusals (fill_of s) p) → length s.waiting.items ≡ 32 → ⊥
not_full s p (_, (few, _)) e = few (waiting_pages s.waiting.items 32 s.once (sym e))

pub push-requires : goal.push-requires
push-requires c =
    let s = c.args.self.now in
    let n = not_full s c.args.page.number c.in_ok-admits.ensures in
    let most = s.few in
    (omega arith, omega arith)

pub invariant_of-self : goal.invariant_of-self
invariant_of-self c =
    let s = c.args.self.now in
    let n = not_full s c.args.page.number c.in_ok-admits.ensures in
    let most = s.few in
    let e = c.push.ensures.len in
    record { few = omega arith; once = ap once c.push.ensures.items ∙ once_added s.waiting.items (record { page = c.args.page; underway = c.args.underway }) s.once (not_waiting _ c.in_ok-admits.ensures.0) }

pub returns : goal.returns
returns c = let s = c.args.self.now in
    (c.in_ok-admits.ensures, ap first_fill c.push.ensures.items ∙ fill_added s.waiting.items (record { page = c.args.page; underway = c.args.underway }) (not_waiting _ c.in_ok-admits.ensures.0))
