use Rattle.std.proofs.Common.{sym, ap, ◌∙◌, subst, arith}
use Rattle.blocks.specs.Rows.{row_pages}
use Rattle.blocks.specs.Shapes.{Shapes}
use Rattle.blocks.proofs.RowPages.{row_there}
use Rattle.blocks.proofs.rows.Rows.shape.Goals as goal

pub returns : goal.returns
returns c =
    let rs = c.args.self.now.rows in
    let e = c.from.ensures in
    subst (λ f. Shapes c.shape.result f) (sym (row_there rs c.from.result c.index-self-from.result (omega arith)) ∙ ap (row_pages rs) e) c.shape.ensures
