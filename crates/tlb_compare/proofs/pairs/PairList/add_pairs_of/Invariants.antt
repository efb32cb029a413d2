use Rattle.std.proofs.Common.{◌≤◌, vec_len}
use Rattle.tlb_compare.proofs.pairs.PairList.add_pairs_of.Given as goal

abbrev pub invariant-loop-page : goal.invariant-loop-page
invariant-loop-page l = vec_len l.initial.self.held ≤ vec_len l.self.held
