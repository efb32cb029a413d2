use Rattle.std.proofs.Common.{ap, ◌∙◌, arith}
use Rattle.std.proofs.lemmas.Bool.{eqb-false, not-true}
use Rattle.words.specs.Layout.{bit}
use Rattle.reservation.proofs.WordSets.{lowest_clear}
use Rattle.reservation.proofs.group.Group.lowest_in.Goals as goal

pub invariant_of-result : goal.invariant_of-result
invariant_of-result c =
    let (l, e) = lowest_clear 16 c.args.self.out.bits (omega (arith, eqb-false _ _ (not-true _ c.requires))) in
    let r = c.trailing_ones.ensures in
    record { within = omega arith }

pub returns : goal.returns
returns c =
    let (l, e) = lowest_clear 16 c.args.self.out.bits (omega (arith, eqb-false _ _ (not-true _ c.requires))) in
    let r = c.trailing_ones.ensures in
    (omega arith, ap (bit c.args.self.out.bits) r ∙ e)
