use Rattle.std.proofs.Common.{Some, get_or, not, refl, sym, ap, ◌∙◌, arith}
use Rattle.std.proofs.lemmas.Bool.{both_ways, eq-eqb, eqb-true, not-false}
use Rattle.fills.specs.declared.underway.Underway.{Underway}
use Rattle.fills.specs.Fills.{underway}
use Rattle.fills.specs.Lists.{first_fill, once}
use Rattle.std.proofs.lemmas.Option.{same_Some}
use Rattle.fills.proofs.Lists.{found_at, fill_removed, once_removed}
use Rattle.fills.proofs.fills.Fills.remove.Goals as goal

pub returns-then-ne : goal.returns-then-ne
returns-then-ne c =
    let s = c.args.self.now in
    let i = c.in_ok-place.place in
    let d = c.index-deref-place.result in
    let (_, _, found) = found_at s.waiting.items c.args.page.number c.place.result i d s.once c.place.ensures c.in_ok-place.ensures.ok_part in (
      (λ e. both_ways _
          (c.ne.ensures ∙ ap not (eq-eqb _ _ (ap (λ ws. (get_or ws i d).underway.frame) c.deref.ensures.0 ∙ ap (λ (u : Underway). u.frame) (same_Some _ _ (sym found ∙ e)))))
          c.if-ne.true),
      refl,
    )

pub invariant_of-self : goal.invariant_of-self
invariant_of-self c =
    let s = c.args.self.now in
    let (l, _, _) = found_at s.waiting.items c.args.page.number c.place.result c.in_ok-place.place c.index-deref-place.result s.once c.place.ensures c.in_ok-place.ensures.ok_part in
    record { few = let most = s.few in let e = c.remove.ensures.len in omega arith; once = ap once c.remove.ensures.items ∙ once_removed s.waiting.items c.in_ok-place.place s.once l }

pub returns : goal.returns
returns c =
    let s = c.args.self.now in
    let i = c.in_ok-place.place in
    let d = c.index-deref-place.result in
    let (l, q, found) = found_at s.waiting.items c.args.page.number c.place.result i d s.once c.place.ensures c.in_ok-place.ensures.ok_part in
    let frames = ap (λ ws. (get_or ws i d).underway.frame) (sym c.deref.ensures.0) ∙ eqb-true _ _ (not-false _ (sym c.ne.ensures ∙ c.if-ne.false)) in
    (found ∙ ap (λ f. Some (underway f)) frames, ap first_fill c.remove.ensures.items ∙ fill_removed s.waiting.items i d c.args.page.number s.once l q)
