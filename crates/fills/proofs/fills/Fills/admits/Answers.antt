use Rattle.std.proofs.Common.{length, sym, ◌∙◌}
use Rattle.std.proofs.lemmas.Bool.{eqb-true, eqb-false}
use Rattle.std.proofs.lemmas.Option.{none-some}
use Rattle.fills.proofs.Lists.{placed_some, placed_none, waiting_pages, not_full}
use Rattle.fills.proofs.fills.Fills.admits.Goals as goal

pub returns-then-is_some : goal.returns-then-is_some
returns-then-is_some c = let s = c.args.self.now in placed_some s.waiting.items c.args.page.number c.place.result s.once c.place.ensures (sym c.is_some.ensures ∙ c.if-is_some.true)

pub returns-then-is_full : goal.returns-then-is_full
returns-then-is_full c =
    let s = c.args.self.now in
    let none = placed_none s.waiting.items c.args.page.number c.place.result c.place.ensures (sym c.is_some.ensures ∙ c.if-is_some.false) in
    ((λ (f, e). none-some f (sym none ∙ e)), waiting_pages s.waiting.items 32 s.once (sym (eqb-true (length s.waiting.items) 32 (sym c.is_full.ensures.value ∙ c.if-is_full.true))))

pub returns : goal.returns
returns c =
    let s = c.args.self.now in
    let none = placed_none s.waiting.items c.args.page.number c.place.result c.place.ensures (sym c.is_some.ensures ∙ c.if-is_some.false) in (
      (λ (f, e). none-some f (sym none ∙ e)),
      (not_full s.waiting.items s.once (eqb-false (length s.waiting.items) 32 (sym c.is_full.ensures.value ∙ c.if-is_full.false)), tt),
    )
