use Rattle.std.proofs.Common.{None, set, lit<, arith, rules}
use Rattle.reservation.specs.Sets.{has}
use Rattle.reservation.proofs.Ages.{left, leaves_at, not_there, all_ranked, all_waits}
use Rattle.reservation.proofs.age_order.AgeOrder.leave.Goals as goal

pub put-requires : goal.put-requires
put-requires c =
    let s = c.args.self.now in
    let f = s.few in
    let here = s.ranked c.from.result c.in-Some.rank c.in-Some.is in
    (lit< tt, omega arith)

pub invariant_of-self : goal.invariant_of-self
invariant_of-self c =
    let s = c.args.self.now in
    let (p, within, order, waiting) = left s c.from.result c.in-Some.rank (set s.ranks c.from-in-Some.result None) (has c.put.new.self) c.in-Some.is (cc) (cc) in
    record { few = s.few; ranked = all_ranked _ _ _ _ p; waits = all_waits _ _ _ _ p }

pub returns-in-Some : goal.returns-in-Some
returns-in-Some c = search (rules, leaves_at)

pub returns-in_default : goal.returns-in_default
returns-in_default c = search (rules, not_there)
