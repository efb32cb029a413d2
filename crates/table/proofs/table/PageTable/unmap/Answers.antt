use Rattle.std.proofs.Common.{sym, ◌∙◌, arith}
use Rattle.table.proofs.Tables.{removed_count}
use Rattle.table.proofs.table.PageTable.unmap.Goals as goal

pub overflow_sub-self : goal.overflow_sub-self
overflow_sub-self c =
    let n = removed_count c.args.self.now c.args.page c.in_ok-translation.translation c.clear.new.self (sym c.lookup.ensures ∙ c.in_ok-translation.ensures.ok_part) c.clear.ensures.held in
    omega arith

pub invariant_of-self : goal.invariant_of-self
invariant_of-self c =
    let n = removed_count c.args.self.now c.args.page c.in_ok-translation.translation c.clear.new.self (sym c.lookup.ensures ∙ c.in_ok-translation.ensures.ok_part) c.clear.ensures.held in
    record { counted = omega arith }
