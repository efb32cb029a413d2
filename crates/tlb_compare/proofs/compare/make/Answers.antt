use Rattle.std.proofs.Common.{rules}
use Rattle.tlb_compare.proofs.compare.make.Goals as goal

pub returns-in_ok-load-in-Load : goal.returns-in_ok-load-in-Load
returns-in_ok-load-in-Load g c = rw c.in-Load.is (c.in_ok-try_from-in-Load.field-0, search rules, search (rules, c.load.ensures.step), c.none.ensures)
