use Rattle.table.specs.Table.{mapping, order}
use Rattle.table.proofs.Fed.{Made}
use Rattle.table.proofs.events.replay_table.Given as goal

abbrev pub invariant-loop-event : goal.invariant-loop-event
invariant-loop-event l = Made l.initial.events l.events l.event-index (mapping l.table) (order l.table)
