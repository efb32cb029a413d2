use Rattle.std.proofs.Common.{rules}
use Rattle.blocks.proofs.Pages.{rowed_count}
use Rattle.blocks.proofs.blocks.Blocks.rowed.Goals as goal

pub returns : goal.returns
returns c = let lemma = rowed_count c.args.self.now in search rules
