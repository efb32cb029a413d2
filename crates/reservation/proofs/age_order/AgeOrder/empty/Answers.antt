use Rattle.std.proofs.Common.{ap, arith, length}
use Rattle.std.specs.Option.{is_some}
use Rattle.std.proofs.lemmas.Bool.{both_ways}
use Rattle.reservation.proofs.Ages.{no_rank}
use Rattle.reservation.proofs.age_order.AgeOrder.empty.Goals as goal

pub invariant_of-result : goal.invariant_of-result
invariant_of-result c =
    let none = ap length c.new.ensures in
    record {
      few = omega arith;
      ranked = λ g p e. let n = no_rank 256 g in cc;
      waits = λ p w. absurd (both_ways _ (c.empty.ensures p) w);
    }

pub returns : goal.returns
returns c g = ap is_some (no_rank 256 g)
