use Rattle.std.proofs.Common.{rules}
use Rattle.std.proofs.lemmas.List.{get_or_default}
use Rattle.tlb.specs.Clearing.{row_slot_cleared, row_slot_kept}
use Rattle.tlb.proofs.Upto.{written, left}
use Rattle.tlb.proofs.partial_slot.PartialSlotEnter.make_room.Goals as goal
use Rattle.tlb.proofs.partial_slot.PartialSlotEnter.make_room.Goals.{then-overlaps, else-overlaps}

pub loop-i-preserved : goal.loop-i-preserved
loop-i-preserved c =
    let row = c.loop-i.slots in
    let i = c.loop-i.i in
    let o = c.index-slots-i.result in
    elim c.if-overlaps.branch [
      | then-overlaps w ↦
          let again = get_or_default row i o w.index-slots-i-then-overlaps.result (search rules) in
          rw w.slots-is (written _ c.args.slots.now row i o c.loop-i.invariant (search rules) w.clear.new.self (search (rules, row_slot_cleared, w.if-overlaps.ensures, w.clear.ensures, again)))
      | else-overlaps w ↦ rw w.slots-is (left _ c.args.slots.now row i o c.loop-i.invariant (search rules) (search (rules, row_slot_kept, w.if-overlaps.ensures)))
    ]
