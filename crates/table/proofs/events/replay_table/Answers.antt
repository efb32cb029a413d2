use Rattle.std.proofs.Common.{refl, arith}
use Rattle.table.specs.Table.{mapping, order}
use Rattle.table.proofs.Fed.{made_more}
use Rattle.table.proofs.events.replay_table.Goals as goal

pub loop-event-preserved : goal.loop-event-preserved
loop-event-preserved c =
    made_more c.args.events.now c.loop-event.events c.loop-event.event-index (mapping c.loop-event.table) (mapping c.perform-event.new.self) (order c.loop-event.table) (order c.perform-event.new.self) c.event-item.result _
    (let a = c.loop-event.auto.events in let b = c.loop-event-test.true in omega arith) refl c.perform-event.ensures.held c.perform-event.ensures.order c.loop-event.invariant
