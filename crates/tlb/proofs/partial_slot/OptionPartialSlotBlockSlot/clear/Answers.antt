use Rattle.std.proofs.Common.{◌<◌, ◌^◌, arith, rules}
use Rattle.tlb.specs.Clearing.{emptied, shrunk}
use Rattle.tlb.proofs.partial_slot.OptionPartialSlotBlockSlot.clear.Goals as goal

pub returns-in-Some : goal.returns-in-Some
returns-in-Some c =
    let slot = c.in-Some-Subblock in
    let wide : c.in-Some.left.bits < 2 ^ 64 = search rules in
    rw (slot.is, slot.field-0-is) (shrunk c.args.offsets.bits slot.field-0-0 slot.word c.in-Some.left (omega arith) c.in-Some.ensures)

pub returns-in-None-without_all : goal.returns-in-None-without_all
returns-in-None-without_all c =
    let slot = c.in-Some-Subblock in
    rw (slot.is, slot.field-0-is) (search (rules, emptied c.args.offsets.bits slot.field-0-0 slot.word c.in-None-without_all.ensures))
