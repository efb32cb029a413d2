use Rattle.std.proofs.Common.{◌≡◌, false, is_some, rules, true}
use borrow.Author.Tests.{tests}
use Rattle.std.proofs.lemmas.Iterator.{YieldsList-from_slice, IsFirst-from_position}
use Rattle.tlb.specs.Slots.{in_slot}
use Rattle.tlb.proofs.Found.{placed}
use Rattle.tlb.proofs.search.place.Goals as goal

pub returns-clause-first : goal.returns-clause-first
returns-clause-first g c =
    let held = in_slot g.S.Slot.held in
    let xs = c.args.slots.now in
    let p = c.args.page.number in
    let is_first = placed held xs p c.position.result (IsFirst-from_position _ _ _ (λ s. is_some (held s p) ≡ true) (λ s. is_some (held s p) ≡ false) c.position.ensures.ran (YieldsList-from_slice xs cc) (λ x q k. search (rules, tests)) (λ x q k. search (rules, tests))) in
    search (rules, is_first)
