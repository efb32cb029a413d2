use Rattle.std.proofs.Common.{rules}
use Rattle.reservation.specs.Reservation.{NoneIn, Chosen}
use Rattle.reservation.proofs.Grouped.{none_left}
use Rattle.reservation.proofs.Usages.{at_ok, at_err}
use Rattle.reservation.proofs.reservation_allocator.ReservationAllocatorFrameAllocator.allocate.Goals as goal

pub returns-in_err-choice-clause-takes : goal.returns-in_err-choice-clause-takes
returns-in_err-choice-clause-takes c =
    let s = c.args.self.now in
    let all = none_left s (at_err c.choose.result c.ok_or.result _ (NoneIn s) (Chosen s c.args.page.number) c.choose.ensures c.ok_or.ensures.ok_part c.in_err-choice.was) in
    search rules

pub returns-clause-step : goal.returns-clause-step
returns-clause-step c =
    let s = c.args.self.now in
    let chosen = at_ok c.choose.result c.ok_or.result c.in_ok-choice.choice (NoneIn s) (Chosen s c.args.page.number) c.choose.ensures c.ok_or.ensures.ok_part c.in_ok-choice.was in
    (c.in_ok-choice.choice, chosen, c.take.ensures.taken)
