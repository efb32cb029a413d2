use Rattle.std.proofs.Common.{◌≡◌, ◌+◌, ◌≤◌, drop, length}
use Rattle.std.specs.Prelude.{sum_by}
use Rattle.reservation_compare.specs.Agreement.{Agreed}
use Rattle.reservation_compare.proofs.compare.compare.Given as goal

-- the events and the calls of the stretches that are left are 17,000; up to here the two agree
abbrev pub invariant-loop-phase : goal.invariant-loop-phase
invariant-loop-phase g l =
    (length l.outcomes.items + sum_by (λ p. p.calls) (drop l.phase-index l.phase-items) ≡ 17000)
    × Agreed g.A.FrameAllocator.meaning g.M.FrameModel.meaning l.fn.allocator l.fn.model l.outcomes.items l.both.allocator l.both.model

-- each call of the stretch has its event
abbrev pub invariant-loop : goal.invariant-loop
invariant-loop g l =
    (length l.outcomes.items ≡ length l.initial.outcomes.items + l.counter) × (l.counter ≤ l.end)
    × Agreed g.A.FrameAllocator.meaning g.M.FrameModel.meaning l.fn.allocator l.fn.model l.outcomes.items l.both.allocator l.both.model
