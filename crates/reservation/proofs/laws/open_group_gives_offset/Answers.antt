use Rattle.reservation.proofs.Offsets.{open_group_gives_offset}
use Rattle.reservation.proofs.laws.open_group_gives_offset.Goals as goal

pub returns : goal.returns
returns c = open_group_gives_offset
