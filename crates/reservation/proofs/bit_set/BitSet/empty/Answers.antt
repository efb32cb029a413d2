use lib.ListN.{length-replicate}
use Rattle.reservation.proofs.WordSets.{no_words}
use Rattle.reservation.proofs.bit_set.BitSet.empty.Goals as goal

pub returns : goal.returns
returns g c = no_words g.row.N

pub invariant_of-result : goal.invariant_of-result
invariant_of-result g c = record { wide = length-replicate g.row.N _ }
