use Rattle.std.proofs.Common.{arith}
use Rattle.fills.proofs.Lists.{nowhere}
use Rattle.fills.proofs.fills.Fills.place.Goals as goal

pub returns : goal.returns
returns c = nowhere c.args.self.now.waiting.items c.args.page.number (λ k l d. c.loop-i.invariant k (let e = c.len-i-end.ensures.value in let f = c.loop-i-test.false in omega arith) d)
