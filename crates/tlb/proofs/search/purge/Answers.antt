use Rattle.std.proofs.Common.{arith}
use Rattle.tlb.specs.Slots.{Becomes, Each, in_slot}
use Rattle.tlb.proofs.Rows.{lost_pages, lost_lessens, lost_gone, lessens_pair, lessens_holders}
use Rattle.tlb.proofs.search.purge.Goals as goal

pub returns : goal.returns
returns g c =
    let held = in_slot g.S.Slot.held in
    let xs = c.args.slots.now in
    let ys = c.loop-slot.slots in
    let p = c.args.page.number in
    let exact : Each (Becomes (λ s u. g.S.Slot.dropped s p u)) xs ys = (c.loop-slot.invariant.long, λ k d l. c.loop-slot.invariant.below k d (omega arith)) in
    let pages = lost_pages g.S.Slot.held g.S.Slot.dropped g.S.Slot.kept g.met.S.Slot.slot_laws xs ys p exact in
    let fewer = lost_lessens held xs ys p pages in
    record {
      exact = exact;
      pages = pages;
      gone = lost_gone held xs ys p pages;
      within = λ q t. lessens_pair held xs ys q t fewer;
      fewer = λ q. lessens_holders held xs ys q fewer;
    }
