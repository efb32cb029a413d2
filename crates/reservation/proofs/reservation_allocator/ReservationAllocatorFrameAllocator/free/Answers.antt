use Rattle.std.proofs.Common.{rules}
use Rattle.reservation.proofs.Stored.{freed_at}
use Rattle.reservation.proofs.reservation_allocator.ReservationAllocatorFrameAllocator.free.Goals as goal

pub returns-clause-step : goal.returns-clause-step
returns-clause-step c = search (rules, freed_at)
