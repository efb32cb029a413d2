use Rattle.std.proofs.Common.{refl, sym, ap, ◌∙◌, arith}
use Rattle.words.specs.Layout.{block_of}
use Rattle.blocks.specs.Blocks.{reordered}
use Rattle.table.specs.Table.{mapping, order}
use Rattle.table.proofs.Refused.{protect_refused, protect_accepted, protected_is, stays_used}
use Rattle.table.proofs.Tables.{same_table, replaced_count}
use Rattle.table.proofs.table.PageTable.protect.Goals as goal

pub invariant_of-self : goal.invariant_of-self
invariant_of-self c =
    let s = c.args.self.now in
    record { counted = replaced_count s c.args.page _ _ c.in_ok-former.former _ c.set.new.self (sym c.lookup.ensures ∙ c.in_ok-former.ensures.ok_part) c.set.result c.set.ensures.held }

pub returns-in-Ok-clause-held : goal.returns-in-Ok-clause-held
returns-in-Ok-clause-held c =
    let m = mapping c.args.self.now in
    let t = c.in_ok-former.former in
    let e = sym c.lookup.ensures ∙ c.in_ok-former.ensures.ok_part in
    (protect_accepted m c.args.page.number t _ c.args.attributes e refl refl (omega arith) c.in-Ok.ensures.held.0, (t, e, refl), c.in-Ok.ensures.held.1 ∙ protected_is m c.args.page.number t _ c.args.attributes e refl refl)

pub returns-in-Err-clause-held : goal.returns-in-Err-clause-held
returns-in-Err-clause-held c =
    let s = c.args.self.now in
    let t = c.in_ok-former.former in
    let (lacks, same) = c.in-Err.ensures.held in
    (protect_refused (mapping s) c.args.page.number t _ c.args.attributes (sym c.lookup.ensures ∙ c.in_ok-former.ensures.ok_part) refl refl (omega arith) _ lacks, same_table _ s same refl)

pub returns-in-Ok-clause-order : goal.returns-in-Ok-clause-order
returns-in-Ok-clause-order c =
    let s = c.args.self.now in
    let t = c.in_ok-former.former in
    c.in-Ok.ensures.order ∙ ap (λ n. reordered (mapping s) n (block_of c.args.page.number) (order s)) c.in-Ok.ensures.held.1
    ∙ stays_used (mapping s) c.args.page.number t _ (order s) (sym c.lookup.ensures ∙ c.in_ok-former.ensures.ok_part)
