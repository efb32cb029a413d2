use Rattle.std.proofs.Common.{ap, ◌∙◌, arith}
use Rattle.words.specs.Points.{at}
use Rattle.blocks.specs.Rows.{pages_of, row_pages}
use Rattle.blocks.proofs.RowPages.{rows_set}
use Rattle.blocks.proofs.rows.Rows.take.Goals as goal

pub returns : goal.returns
returns c =
    let rs = c.args.self.now.rows in
    let e = c.from.ensures in
    (c.in_ok-number.ensures.items, rows_set rs c.from.result c.args.row (omega arith) ∙ ap (λ k. at (row_pages rs) k (pages_of c.args.row)) e)
