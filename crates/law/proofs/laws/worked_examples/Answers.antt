use Rattle.law.proofs.Worked.{worked_examples}
use Rattle.law.proofs.laws.worked_examples.Goals as goal

pub returns : goal.returns
returns c = worked_examples
