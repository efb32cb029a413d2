use Rattle.std.proofs.Common.{◌≤◌}
use Rattle.tlb_compare.specs.Agreement.{Agreed}
use Rattle.tlb_compare.proofs.compare.compare.Given as goal

abbrev pub invariant-loop-call : goal.invariant-loop-call
invariant-loop-call g l = (l.hits ≤ l.call) × Agreed g.T.Tlb.meaning g.M.Model.has l.initial.tlb l.initial.model l.call l.hits l.tlb l.model
