use Rattle.tlb.specs.Slots.{Becomes}
use Rattle.tlb.proofs.Upto.{Upto}
use Rattle.tlb.proofs.search.purge.Given as goal

abbrev pub invariant-loop-slot : goal.invariant-loop-slot
invariant-loop-slot g l = Upto (Becomes (λ s u. g.S.Slot.dropped s l.page.number u)) l.initial.slots l.slots l.slot-index
