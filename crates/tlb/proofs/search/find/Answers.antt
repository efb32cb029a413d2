use Rattle.std.proofs.Common.{rules}
use borrow.Author.Tests.{tests}
use Rattle.tlb.specs.Slots.{in_slot}
use Rattle.tlb.proofs.Found.{found, first_mapped, answers}
use Rattle.tlb.proofs.search.find.Goals as goal

pub returns : goal.returns
returns g c =
    let held = in_slot g.S.Slot.held in
    let xs = c.args.slots.now in
    let p = c.args.page.number in
    let r = c.find_map.result in
    let first = found held xs p r (first_mapped (λ s. held s p) xs c.iter.result r (λ s. s.rest.now) c.iter.ensures.runs c.iter.ensures.rest c.find_map.ensures.runs (λ x a q k. search (rules, tests))) in
    record { first = search (rules, first); answer = answers held xs p _ (search (rules, first)) }
