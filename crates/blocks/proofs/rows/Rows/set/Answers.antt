use Rattle.std.proofs.Common.{arith}
use Rattle.blocks.proofs.RowPages.{row_changed}
use Rattle.blocks.proofs.rows.Rows.set.Goals as goal

pub returns-clause-pages : goal.returns-clause-pages
returns-clause-pages c =
    let e = c.from.ensures in
    row_changed c.args.self.now.rows c.from.result c.index-self-from.result c.set.new.self c.args.row.number c.args.offset.number c.args.page (omega arith) e c.set.ensures
