use Rattle.trace_format.proofs.Readings.{one_trouble}
use Rattle.trace_format.proofs.laws.one_trouble.Goals as goal

pub returns : goal.returns
returns c = one_trouble
