use Rattle.reservation.proofs.Offsets.{kept_at_offset}
use Rattle.reservation.proofs.laws.kept_at_offset.Goals as goal

pub returns : goal.returns
returns c = kept_at_offset
