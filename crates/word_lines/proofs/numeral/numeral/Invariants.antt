use Rattle.std.proofs.Common.{◌≡◌, ◌^◌, ◌<◌, drop}
use Rattle.word_lines.specs.Numerals.{number_in}
use Rattle.word_lines.proofs.Reading.{onward}
use Rattle.word_lines.proofs.numeral.numeral.Given as goal

abbrev pub invariant-loop-byte : goal.invariant-loop-byte
invariant-loop-byte l = (onward l.base l.value (drop l.byte-index l.digits) ≡ number_in l.base l.digits) × (l.value < 2 ^ 64)
