use Rattle.std.proofs.Common.{◌^◌, ap, is_some, rules}
use Rattle.chains.proofs.Counts.{many_none}
use Rattle.blocks.specs.Blocks.{held}
use Rattle.table.proofs.table.PageTable.new.Goals as goal

pub invariant_of-result : goal.invariant_of-result
invariant_of-result c =
    let none = many_none (λ p. is_some (held c.new.result p)) (2 ^ 52) (λ p l. ap is_some (c.new.ensures.held p)) in
    record { counted = search rules }
