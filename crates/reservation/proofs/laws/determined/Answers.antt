use Rattle.reservation.proofs.OneState.{determined}
use Rattle.reservation.proofs.laws.determined.Goals as goal

pub returns : goal.returns
returns c = determined
