use Rattle.std.proofs.Common.{take}
use Rattle.space.proofs.Runs.{Runs, Sofar}
use Rattle.space.specs.Plain.{plain}
use Rattle.space.proofs.plain.replay.Given as goal

abbrev pub invariant-loop-i : goal.invariant-loop-i
invariant-loop-i g l = Sofar l.calls l.initial.events l.events l.i × Runs (plain l.initial.space) (take l.i l.events) (plain l.space)
