use lib.ListN.{length-replicate}
use Rattle.reservation.proofs.WordSets.{all_words}
use Rattle.reservation.proofs.bit_set.BitSet.full.Goals as goal

pub returns : goal.returns
returns g c = all_words g.row.N

pub invariant_of-result : goal.invariant_of-result
invariant_of-result g c = record { wide = length-replicate g.row.N _ }
