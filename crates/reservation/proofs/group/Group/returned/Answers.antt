use Rattle.std.proofs.Common.{rules}
use Rattle.reservation.proofs.WordSets.{one_without}
use Rattle.reservation.proofs.group.Group.returned.Goals as goal

pub returns-then-is_empty : goal.returns-then-is_empty
returns-then-is_empty c = record { out = search (rules, one_without); usage = search rules }

pub returns-else-is_empty : goal.returns-else-is_empty
returns-else-is_empty c = record { out = search (rules, one_without); usage = search rules }
