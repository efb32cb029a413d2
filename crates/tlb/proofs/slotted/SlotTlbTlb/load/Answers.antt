use Rattle.std.proofs.Common.{sym, rules}
use Rattle.tlb.proofs.Rows.{Comes, comes, at_some}
use Rattle.tlb.proofs.slotted.SlotTlbTlb.load.Goals as goal
use Rattle.tlb.proofs.slotted.SlotTlbTlb.load.Goals.{After-store}

-- the entry came into the row
came : (g : _) (c : After-store g) → Comes g.S.Slot.held g.S.Slot.kept c.args.self.now.slots c.args.entry c.args.page.number c.in-Some.translation c.store.new.slots
came g c =
    let self = c.args.self.now in
    comes g.S.Slot.held g.S.Slot.kept g.S.Enter.room g.S.Enter.taken g.met.S.Enter.enter_laws self.slots self.hand c.args.entry c.args.page.number c.in-Some.translation c.store.new.slots c.store.new.hand
    self.single self.kept (search rules) (sym c.in-Some.ensures) c.store.ensures

pub invariant_of-self : goal.invariant_of-self
invariant_of-self g c = let row = came g (goal.at.invariant_of-self g c).After-store in record { single = row.once; kept = row.keeps }

pub returns-in-Some-clause-loads : goal.returns-in-Some-clause-loads
returns-in-Some-clause-loads g c =
    let takes = (came g (goal.at.returns-in-Some-clause-loads g c).After-store).takes in
    at_some _ _ _ _ c.in-Some.ensures (record { has = takes.has; only = takes.only; from = takes.from })
