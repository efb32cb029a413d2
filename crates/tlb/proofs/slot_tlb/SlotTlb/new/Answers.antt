use Rattle.std.proofs.Common.{replicate, None, refl, rules}
use Rattle.tlb.specs.Slots.{in_slot}
use Rattle.tlb.proofs.Rows.{no_pair}
use Rattle.tlb.proofs.slot_tlb.SlotTlb.new.Goals as goal

pub returns-clause-gone : goal.returns-clause-gone
returns-clause-gone g c q t h = no_pair (in_slot g.S.Slot.held) (replicate 64 None) q t refl h

pub invariant_of-result : goal.invariant_of-result
invariant_of-result g c = record { single = search rules; kept = g.met.S.Slot.slot_laws.empty 64 }
