use Rattle.std.proofs.Common.{◌≡◌, ◌+◌, sym, ap, ◌∙◌, subst, arith, option_and_then}
use Rattle.std.proofs.lemmas.Option.{slice_get-get_or}
use Rattle.blocks.specs.Rows.{full_page, pages_of}
use Rattle.blocks.specs.Shapes.{Shapes}
use Rattle.blocks.proofs.Shapes.{first, first_all, first_end, first_skips, first_adds, same_shape}
use Rattle.blocks.proofs.row.Row.shape.Goals.{in-Some, in_default}
use Rattle.blocks.proofs.row.Row.shape.Goals as goal

pub loop-i-preserved : goal.loop-i-preserved
loop-i-preserved c =
    let r = c.args.self.now in
    let i = c.loop-i.i in
    let here : pages_of r i ≡ c.read.result = ap (λ k. pages_of r k) (sym c.from.ensures) ∙ ap (option_and_then full_page) (slice_get-get_or r.words c.from.result c.index-self-from.result (let e = c.from.ensures in let l = c.loop-i-test.true in omega arith)) ∙ sym c.read.ensures in
    elim c.match-read.branch [
      | in-Some w ↦ (let t = w.in-Some.translation in
          let e = w.with-shape.ensures (first i (pages_of r)) (first_end (pages_of r) i) c.loop-i.invariant in
          subst (λ s. Shapes s (first (i + 1) (pages_of r))) (sym w.shape-is) (same_shape _ _ (first (i + 1) (pages_of r)) (first_adds (pages_of r) i t (here ∙ w.in-Some.is)) e))
      | in_default w ↦ subst (λ s. Shapes s (first (i + 1) (pages_of r))) (sym w.shape-is) (same_shape _ _ (first (i + 1) (pages_of r)) (first_skips (pages_of r) i (here ∙ w.in_default.is)) c.loop-i.invariant)
    ]

pub returns : goal.returns
returns c = same_shape c.loop-i.shape _ (pages_of c.args.self.now) (λ o l. ap (λ i. first i (pages_of c.args.self.now) o) (let a = c.loop-i-test.false in let b = c.loop-i.auto.i-end in omega arith) ∙ first_all (pages_of c.args.self.now) o l) c.loop-i.invariant
