use Rattle.std.proofs.Common.{◌≡◌, ℕ, ◌<◌}
use Rattle.blocks.specs.Rows.{pages_of}
use Rattle.blocks.specs.Shapes.{word_pages}
use Rattle.blocks.proofs.Shapes.{first}
use Rattle.blocks.proofs.row.Row.of_word.Given as goal

abbrev pub invariant-loop-i : goal.invariant-loop-i
invariant-loop-i l = (k : ℕ) → k < 16 → pages_of l.row k ≡ first l.i (word_pages l.word) k
