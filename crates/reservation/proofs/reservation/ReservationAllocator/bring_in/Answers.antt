use Rattle.std.proofs.Common.{false, ap, ◌∙◌, arith}
use Rattle.reservation.specs.Reservation.{group_of}
use Rattle.reservation.proofs.Grouped.{group_read}
use Rattle.reservation.proofs.Stored.{back_used, back_single, came_in, same_stock, out_changed}
use Rattle.reservation.proofs.reservation.ReservationAllocator.bring_in.Goals as goal

pub store-requires : goal.store-requires
store-requires c =
    let s = c.args.self.now in
    let g = c.args.spot.group in
    let k = c.args.spot.offset.number in
    let was = group_read s c.from.result _ (omega arith) ∙ ap (group_of s) c.from.ensures in
    record {
      used = back_used s g k _ c.returned.result was c.requires c.returned.ensures;
      single = back_single s g k _ c.returned.result was c.requires c.returned.ensures;
    }

pub returns : goal.returns
returns c =
    let s = c.args.self.now in
    let u = c.store.new.self in
    let g = c.args.spot.group in
    let k = c.args.spot.offset.number in
    let was = group_read s c.from.result _ (omega arith) ∙ ap (group_of s) c.from.ensures in
    let e = c.store.ensures in
    let came = came_in s g k _ c.returned.result was c.requires c.returned.ensures u e.stock e.stored e.order in
    record {
      came = came;
      out = out_changed s u g k false (omega arith) (omega arith) came.only came.returned.out;
      same = same_stock s u e.stock;
    }
