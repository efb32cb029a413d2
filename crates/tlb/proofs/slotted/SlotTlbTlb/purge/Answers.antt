use Rattle.std.proofs.Common.{rules}
use Rattle.tlb.proofs.Rows.{lost_kept}
use Rattle.tlb.proofs.slotted.SlotTlbTlb.purge.Goals as goal

pub invariant_of-self-clause-kept : goal.invariant_of-self-clause-kept
invariant_of-self-clause-kept g c =
    let keeps = lost_kept g.S.Slot.held g.S.Slot.dropped g.S.Slot.kept g.met.S.Slot.slot_laws c.args.page.number c.args.self.now.slots in
    let kept = c.args.self.now.kept in
    let exact = c.purge.ensures.exact in
    search (rules, keeps, kept, exact)
