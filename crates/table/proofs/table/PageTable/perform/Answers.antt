use Rattle.std.proofs.Common.{sym, subst}
use Rattle.table.specs.declared.events.TableCall.TheVariants.{Map, Unmap, Protect, Walk}
use Rattle.table.specs.Faults.{map_number, protect_number, not_mapped_number}
use Rattle.table.specs.Replay.{Performs}
use Rattle.table.specs.Table.{mapping}
use Rattle.table.proofs.Fed.{performed, walked, unmapped_one}
use Rattle.table.proofs.table.PageTable.perform.Goals as goal

pub returns-in-Map-clause-held : goal.returns-in-Map-clause-held
returns-in-Map-clause-held c =
    let s = c.args.self.now in
    subst (λ k. Performs (mapping s) k c.is_err.result (mapping c.map.new.self)) (sym c.in-Map.is) (subst (λ b. Performs (mapping s) (Map c.in-Map.page c.in-Map.translation) b (mapping c.map.new.self)) (sym c.is_err.ensures.value)
    (performed s c.map.new.self (Map c.in-Map.page c.in-Map.translation) map_number _ c.map.result (λ x p. p) c.map.ensures.held))

pub returns-in-Unmap-clause-held : goal.returns-in-Unmap-clause-held
returns-in-Unmap-clause-held c =
    let s = c.args.self.now in
    subst (λ k. Performs (mapping s) k c.is_err-in-Unmap.result (mapping c.unmap.new.self)) (sym c.in-Unmap.is) (subst (λ b. Performs (mapping s) (Unmap c.in-Unmap.page) b (mapping c.unmap.new.self)) (sym c.is_err-in-Unmap.ensures.value)
    (performed s c.unmap.new.self (Unmap c.in-Unmap.page) (λ _. not_mapped_number) _ c.unmap.result (λ t (m, n). unmapped_one s c.in-Unmap.page t _ m n) c.unmap.ensures.held))

pub returns-in-Protect-clause-held : goal.returns-in-Protect-clause-held
returns-in-Protect-clause-held c =
    let s = c.args.self.now in
    subst (λ k. Performs (mapping s) k c.is_err-in-Protect.result (mapping c.protect.new.self)) (sym c.in-Protect.is)
    (subst (λ b. Performs (mapping s) (Protect c.in-Protect.page c.in-Protect.attributes) b (mapping c.protect.new.self)) (sym c.is_err-in-Protect.ensures.value)
    (performed s c.protect.new.self (Protect c.in-Protect.page c.in-Protect.attributes) protect_number _ c.protect.result (λ x (a, _, n). (a, n)) c.protect.ensures.held))

pub returns-in-Walk-clause-held : goal.returns-in-Walk-clause-held
returns-in-Walk-clause-held c =
    let s = c.args.self.now in
    subst (λ k. Performs (mapping s) k c.is_err-in-Walk.result (mapping s)) (sym c.in-Walk.is) (subst (λ b. Performs (mapping s) (Walk c.in-Walk.page) b (mapping s)) (sym c.is_err-in-Walk.ensures.value)
    (walked s c.in-Walk.page c.walk.result c.walk.ensures.word))
