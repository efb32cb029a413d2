use Rattle.trace_format.proofs.Readings.{one_reading}
use Rattle.trace_format.proofs.laws.one_reading.Goals as goal

pub returns : goal.returns
returns c = one_reading
