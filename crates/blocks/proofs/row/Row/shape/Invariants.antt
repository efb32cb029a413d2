use Rattle.blocks.specs.Rows.{pages_of}
use Rattle.blocks.specs.Shapes.{Shapes}
use Rattle.blocks.proofs.Shapes.{first}
use Rattle.blocks.proofs.row.Row.shape.Given as goal

abbrev pub invariant-loop-i : goal.invariant-loop-i
invariant-loop-i l = Shapes l.shape (first l.i (pages_of l.self))
