use Rattle.reservation.proofs.Indexed.{nth_none}
use Rattle.reservation.proofs.block_index.BlockIndex.empty.Goals as goal

pub returns : goal.returns
returns c = nth_none 64 c.empty.result c.empty.ensures
