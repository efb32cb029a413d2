use Rattle.std.proofs.Common.{sym, refl, ◌∙◌, subst, arith}
use Rattle.table.specs.Calls.{map_refusals}
use Rattle.table.specs.Faults.{map_number}
use Rattle.words.specs.Refusals.{First}
use Rattle.table.specs.Table.{mapping}
use Rattle.table.proofs.Refused.{refused_as, map_refused, map_accepted}
use Rattle.table.proofs.Tables.{is_mapped, not_mapped, same_table, added_count}
use Rattle.table.proofs.table.PageTable.map.Goals as goal

pub returns-then-is_some-clause-held : goal.returns-then-is_some-clause-held
returns-then-is_some-clause-held c = let (t, e) = is_mapped c.lookup.result (sym c.is_some.ensures ∙ c.if-is_some.true) in ((t, sym c.lookup.ensures ∙ e), refl)

pub returns-in_err-set-clause-held : goal.returns-in_err-set-clause-held
returns-in_err-set-clause-held c =
    let s = c.args.self.now in
    let none = sym c.lookup.ensures ∙ not_mapped c.lookup.result (sym c.is_some.ensures ∙ c.if-is_some.false) in
    let (lacks, same) = c.in_err-set.ensures.held in
    refused_as map_number _ c.from_residual.result _ _ c.from_residual.ensures.1
    (λ e n. (subst (First (map_refusals (mapping s) c.args.page.number c.args.translation)) (sym n) (map_refused (mapping s) c.args.page.number c.args.translation _ none lacks), same_table _ s same refl))

pub overflow_add-self : goal.overflow_add-self
overflow_add-self c =
    let none = sym c.lookup.ensures ∙ not_mapped c.lookup.result (sym c.is_some.ensures ∙ c.if-is_some.false) in
    let (_, most) = added_count c.args.self.now c.args.page c.args.translation c.set.new.self none c.in_ok-set.ensures.held.1 in
    omega arith

pub invariant_of-self-2 : goal.invariant_of-self-2
invariant_of-self-2 c =
    let none = sym c.lookup.ensures ∙ not_mapped c.lookup.result (sym c.is_some.ensures ∙ c.if-is_some.false) in
    let (counted, _) = added_count c.args.self.now c.args.page c.args.translation c.set.new.self none c.in_ok-set.ensures.held.1 in
    record { counted = counted }

pub returns-clause-held : goal.returns-clause-held
returns-clause-held c =
    let none = sym c.lookup.ensures ∙ not_mapped c.lookup.result (sym c.is_some.ensures ∙ c.if-is_some.false) in
    let (room, held) = c.in_ok-set.ensures.held in
    (map_accepted (mapping c.args.self.now) c.args.page.number c.args.translation none room, held)
