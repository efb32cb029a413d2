use Rattle.std.proofs.Common.{◌≡◌, ◌^◌, eqb, ltb, ap, ◌∙◌, arith}
use Rattle.std.proofs.lemmas.Bool.{both_ways, ne_eqb}
use Rattle.chains.specs.Chains.{body_of}
use Rattle.chains.proofs.Counts.{many_none}
use Rattle.blocks.specs.Held.{is_narrow, row_in, has_row, owners}
use Rattle.blocks.proofs.blocks.Blocks.new.Goals as goal

pub invariant_of-result : goal.invariant_of-result
invariant_of-result c =
    let empty = c.new.ensures.held in
    let rows = c.new-2.ensures in
    record {
      lent = λ i l. (let e = rows.each i l in let n : owners c.new.result i ≡ 0 = many_none (λ b. eqb (row_in (body_of c.new.result b)) i) (2 ^ 48) (λ b m. ap (λ y. eqb (row_in y) i) (empty b) ∙ ne_eqb 128 i (λ q. omega arith)) in omega arith);
      taken = (let e = rows.count in let n = many_none (has_row c.new.result) (2 ^ 48) (λ b m. ap (λ y. ltb (row_in y) 128) (empty b)) in omega arith);
      narrow = λ b. ap is_narrow (empty b);
      mixed = λ b k a t p. both_ways _ (ap (λ y. ltb (row_in y) 128) (empty b)) t;
    }
