use Rattle.tlb.specs.Slots.{in_slot}
use Rattle.tlb.proofs.Rows.{one_pair}
use Rattle.tlb.proofs.slot_tlb.SlotTlb.agrees.Goals as goal

pub returns : goal.returns
returns g c p t u = one_pair (in_slot g.S.Slot.held) c.args.self.now.slots p t u (c.args.self.now.single p)
