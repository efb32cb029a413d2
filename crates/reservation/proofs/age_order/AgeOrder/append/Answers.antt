use Rattle.std.proofs.Common.{Some, set, arith, rules}
use Rattle.reservation.specs.Sets.{has}
use Rattle.reservation.proofs.Ages.{joined, joins_at, all_ranked, all_waits}
use Rattle.reservation.proofs.age_order.AgeOrder.append.Goals as goal

pub invariant_of-self : goal.invariant_of-self
invariant_of-self c =
    let s = c.args.self.now in
    let n = c.len-rank.result in
    let (p, within, order, waiting) = joined s c.args.group c.args.wait (set s.ranks c.from.result (Some n)) (has c.put.new.self) c.push.new.self.items
    c.requires.new (omega arith) (cc) (cc) c.push.ensures.items in
    record { few = omega arith; ranked = all_ranked _ _ _ _ p; waits = all_waits _ _ _ _ p }

pub returns : goal.returns
returns c = search (rules, joins_at)
