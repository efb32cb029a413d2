use Rattle.std.proofs.Common.{arith}
use Rattle.blocks.proofs.row.Row.set.Goals as goal
use Rattle.blocks.proofs.RowPages.{row_set}

pub returns : goal.returns
returns c = row_set c.args.self.now c.from.result c.word_of.result c.args.page c.args.offset.number c.from.ensures (let e = c.from.ensures in omega arith) c.word_of.ensures
