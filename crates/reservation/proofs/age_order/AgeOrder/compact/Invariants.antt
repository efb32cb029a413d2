use Rattle.reservation.proofs.Ages.{Compacting}
use Rattle.reservation.proofs.age_order.AgeOrder.compact.Given as goal

abbrev pub invariant-loop-rank : goal.invariant-loop-rank
invariant-loop-rank l = Compacting l.initial.self l.self l.lowest l.rank
