use Rattle.std.proofs.Common.{rules}
use Rattle.blocks.proofs.Pages.{used_count}
use Rattle.blocks.proofs.blocks.Blocks.used.Goals as goal

pub returns : goal.returns
returns c = let lemma = used_count c.args.self.now in search rules
