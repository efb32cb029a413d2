use Rattle.std.proofs.Common.{rules}
use Rattle.tlb.specs.Clearing.{page_cleared, page_kept}
use Rattle.tlb.proofs.partial_slot.PartialSlotSlot.drop_page.Goals as goal

pub returns-then-overlaps : goal.returns-then-overlaps
returns-then-overlaps c = page_cleared c.args.page.number c.args.slot.now c.clear.new.self (search rules) (search rules)

pub returns-else-overlaps : goal.returns-else-overlaps
returns-else-overlaps c = page_kept c.args.page.number c.args.slot.now (search rules)
