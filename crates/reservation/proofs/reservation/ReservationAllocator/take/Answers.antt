use Rattle.std.proofs.Common.{◌≡◌, true, sym, ap, ◌∙◌, subst, arith}
use Rattle.frames.specs.Stock.{first_frame}
use Rattle.reservation.specs.Reservation.{group_of, group_stock, group_out, frame_at, UsedAs}
use Rattle.words.specs.Points.{at}
use Rattle.reservation.proofs.Grouped.{group_read}
use Rattle.reservation.proofs.Stored.{step_not_open, step_single, took, same_stock, frame_stock, frame_out, out_changed}
use Rattle.reservation.proofs.reservation.ReservationAllocator.take.Goals as goal

pub store-requires : goal.store-requires
store-requires c =
    let s = c.args.self.now in
    let d = c.args.choice in
    let used = subst (UsedAs c.args.page.number d.step) (sym c.taken.ensures.usage) c.usage-usage.ensures in
    record {
      used = step_not_open c.args.page.number d.step c.taken.result.usage used ∙ sym c.taken.ensures.some;
      single = step_single s c.args.page.number d.step d.spot.group d.spot.offset.number c.taken.result.usage c.requires.rule used;
    }

pub returns : goal.returns
returns c =
    let s = c.args.self.now in
    let u = c.store.new.self in
    let d = c.args.choice in
    let k = d.spot.offset.number in
    let stock = c.store.ensures.stock in
    let frame : c.frame.result ≡ frame_at s d.spot.group k = omega (arith, c.frame.ensures, c.from-2.ensures, ap (first_frame) stock) in
    let was = group_read s c.from.result _ (omega arith) ∙ ap (group_of s) c.from.ensures in
    let used = subst (UsedAs c.args.page.number d.step) (sym c.taken.ensures.usage) c.usage-usage.ensures in
    let taken = took s u c.args.page.number d _ _ c.taken.result c.requires was c.taken.ensures.out used stock c.store.ensures.stored c.store.ensures.order frame in
    record {
      taken = taken;
      stock = ap (group_stock s) frame ∙ frame_stock s d.spot.group k (omega arith) c.requires.within.0;
      within = ap (group_out s) frame ∙ frame_out s d.spot.group k (omega arith) c.requires.within.0 ∙ c.requires.within.1;
      out = out_changed s u d.spot.group k true (omega arith) c.requires.within.0 taken.only taken.out ∙ ap (λ f. at (group_out s) f true) (sym frame);
      same = same_stock s u stock;
    }
