use Rattle.std.proofs.Common.{◌-◌}
use Rattle.reservation.proofs.WordSets.{Searched}
use Rattle.reservation.proofs.bit_set.BitSet.first_from.Given as goal

abbrev pub invariant-loop-rest : goal.invariant-loop-rest
invariant-loop-rest g l = Searched l.self.words l.from l.i l.begin l.rest

abbrev pub decreases-loop-rest : goal.decreases-loop-rest
decreases-loop-rest g l = g.row.N - l.i
