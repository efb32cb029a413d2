use Rattle.std.specs.Prelude.{◌≡◌}
use Rattle.table_bench.proofs.chain.Chain.walks.Given as goal

abbrev pub invariant-loop : goal.invariant-loop
invariant-loop l = l.counter ≡ 0 → l.sum ≡ 0
