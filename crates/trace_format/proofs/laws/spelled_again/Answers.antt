use Rattle.trace_format.proofs.Readings.{spelled_again}
use Rattle.trace_format.proofs.laws.spelled_again.Goals as goal

pub returns : goal.returns
returns c = spelled_again
