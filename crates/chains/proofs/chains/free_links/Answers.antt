use Rattle.std.proofs.Common.{None, rules}
use Rattle.chains.proofs.chains.free_links.Goals as goal

pub returns : goal.returns
returns c k l = let (p, q, called) = c.from_fn.ensures.items.at k None l in search rules
