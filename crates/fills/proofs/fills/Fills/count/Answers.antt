use Rattle.fills.proofs.Lists.{waiting_pages}
use Rattle.fills.proofs.fills.Fills.count.Goals as goal

pub returns : goal.returns
returns c = waiting_pages c.args.self.now.waiting.items c.len.result c.args.self.now.once c.len.ensures.value
