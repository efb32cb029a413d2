use Rattle.tlb.specs.PartialSlots.{of_block, Cleared}
use Rattle.tlb.specs.Slots.{Becomes}
use Rattle.tlb.proofs.Upto.{Upto}
use Rattle.tlb.proofs.partial_slot.PartialSlotEnter.make_room.Given as goal

abbrev pub invariant-loop-i : goal.invariant-loop-i
invariant-loop-i l = Upto (Becomes (Cleared (of_block l.block.number l.offsets.bits))) l.initial.slots l.slots l.i
