use Rattle.std.proofs.Common.{rules}
use Rattle.table.proofs.Tables.{counted_pages}
use Rattle.table.proofs.table.PageTable.census.Goals as goal

pub returns : goal.returns
returns c = let lemma = counted_pages c.args.self.now in search rules
