use Rattle.std.proofs.Common.{◌≡◌, ◌%◌, get_or, ap, ◌∙◌, arith, rules}
use Rattle.chains.specs.declared.node.RowNumber.{RowNumber}
use Rattle.blocks.specs.Rows.{occurs}
use Rattle.blocks.proofs.Spare.{once}
use Rattle.blocks.proofs.rows.Rows.new.Goals as goal

pub returns-clause-each : goal.returns-clause-each
returns-clause-each c i l =
    let d : RowNumber = record { number = 0; within = omega arith } in
    ap (occurs i) c.from.ensures.0 ∙ once c.from_fn.result d 0 i (λ k m. (let (p, q, called) = c.from_fn.ensures.items.at k d (omega arith) in let e : (get_or c.from_fn.result k d).number ≡ k % 128 = search rules in omega arith)) (omega arith) (omega arith)
