use Rattle.std.proofs.Common.{arith}
use Rattle.player.specs.Steps.Asks.{counted}
use Rattle.player.proofs.Led.{one, few}
use Rattle.player.proofs.steps.count.Goals as goal

pub overflow_cast-result : goal.overflow_cast-result
overflow_cast-result g c = let h = few c.args.space.now _ c.census-census.ensures.right.waiting in omega arith

pub returns : goal.returns
returns g c = rw (c.from.ensures, c.from-2.ensures, c.from-3.ensures) (one _ _ _ _ _ counted c.census-census.ensures)
