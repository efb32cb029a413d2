use Rattle.std.proofs.Common.{◌≡◌, ◌+◌, ◌++◌, string_bytes}
use Rattle.std.specs.Iterator.Adapters.{enumerate_source, enumerate_count}
use Rattle.word_lines.specs.Responses.{responses, responses_to}
use Rattle.word_lines.specs.Walk.{pieces_left}
use Rattle.word_lines.proofs.responder.respond.Given as goal

abbrev pub invariant-loop-i : goal.invariant-loop-i
invariant-loop-i l = string_bytes l.text ++ responses (enumerate_count l.i-iterator + 1) (pieces_left (enumerate_source l.i-iterator)) ≡ responses_to l.input
