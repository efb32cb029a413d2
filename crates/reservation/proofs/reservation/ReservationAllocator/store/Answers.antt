use Rattle.std.proofs.Common.{refl, subst, arith, rules}
use Rattle.reservation.specs.Ages.{Updated}
use Rattle.reservation.proofs.Written.{written_group, kept_used, kept_alone, kept_open, kept_spare, kept_listed, kept_ordered, kept_waiting}
use Rattle.reservation.proofs.reservation.ReservationAllocator.store.Goals as goal

pub invariant_of-self-clause-used : goal.invariant_of-self-clause-used
invariant_of-self-clause-used c = search (rules, kept_used)

pub invariant_of-self-clause-single : goal.invariant_of-self-clause-single
invariant_of-self-clause-single c = kept_alone c.args.self.now c.from-index.result c.args.number c.args.group c.from-index.ensures (omega arith) c.requires.single

pub invariant_of-self-clause-opens : goal.invariant_of-self-clause-opens
invariant_of-self-clause-opens c = search (rules, kept_open)

pub invariant_of-self-clause-spares : goal.invariant_of-self-clause-spares
invariant_of-self-clause-spares c = search (rules, kept_spare)

pub invariant_of-self-clause-listed : goal.invariant_of-self-clause-listed
invariant_of-self-clause-listed c = kept_listed c.args.self.now c.update.new.self c.from-index.result c.args.number c.args.group c.from-index.ensures (omega arith) c.update.ensures.own c.update.ensures.others

pub invariant_of-self-clause-ordered : goal.invariant_of-self-clause-ordered
invariant_of-self-clause-ordered c =
    let s = c.args.self.now in
    let turned = subst (λ o. Updated s.order c.args.number o c.update-2.new.self) c.turn.ensures c.update-2.ensures in
    kept_ordered s c.update-2.new.self c.from-index.result c.args.number c.args.group c.from-index.ensures (omega arith) turned

pub invariant_of-self-clause-waiting : goal.invariant_of-self-clause-waiting
invariant_of-self-clause-waiting c =
    let s = c.args.self.now in
    let turned = subst (λ o. Updated s.order c.args.number o c.update-2.new.self) c.turn.ensures c.update-2.ensures in
    kept_waiting s c.update-2.new.self c.from-index.result c.args.number c.args.group c.from-index.ensures (omega arith) turned

pub returns : goal.returns
returns c =
    let s = c.args.self.now in
    record {
      stock = refl;
      stored = written_group s c.from-index.result c.args.number c.args.group c.from-index.ensures (omega arith);
      order = subst (λ o. Updated s.order c.args.number o c.update-2.new.self) c.turn.ensures c.update-2.ensures;
    }
