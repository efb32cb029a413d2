use Rattle.words.proofs.Worked.{examples}
use Rattle.words.proofs.laws.worked_values.Goals as goal

pub returns : goal.returns
returns c = examples
