use Rattle.std.proofs.Common.{rules}
use Rattle.reservation.proofs.WordSets.{one_with}
use Rattle.reservation.proofs.group.Group.taken.Goals as goal

pub returns-clause-out : goal.returns-clause-out
returns-clause-out c = search (rules, one_with)
