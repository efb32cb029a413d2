use Rattle.words.proofs.WordLaws.{accepted_are_values}
use Rattle.words.proofs.laws.accepted_are_values.Goals as goal

pub returns : goal.returns
returns c = accepted_are_values
