use Rattle.trace_format.proofs.Readings.{answers_are_read}
use Rattle.trace_format.proofs.laws.answers_are_read.Goals as goal

pub returns : goal.returns
returns c = answers_are_read
