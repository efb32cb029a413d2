use Rattle.trace_format.proofs.Lines.{one_line}
use Rattle.trace_format.proofs.laws.one_line_for_a_text.Goals as goal

pub returns : goal.returns
returns c = one_line
