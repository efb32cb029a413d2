use Rattle.std.proofs.Common.{sym, ◌∙◌, subst, arith}
use Rattle.blocks.specs.Shapes.{Shapes}
use Rattle.blocks.proofs.Shapes.{alone, misplaced, continued, broken, mixed_stays, said_same, said_other}
use Rattle.blocks.proofs.shape.Shape.with.Goals as goal

pub returns-in-Some : goal.returns-in-Some
returns-in-Some c = λ f n s. let (p, e) = c.in-Some.ensures in alone f c.args.offset.number c.args.translation c.args.offset.within n (subst (λ x. Shapes x f) c.in-Empty.is s) c.in-Some.word.bits p e

pub returns-in-None : goal.returns-in-None
returns-in-None c = λ f n s. misplaced f c.args.offset.number c.args.translation c.args.offset.within n c.in-None.ensures

pub returns-then-eq : goal.returns-then-eq
returns-then-eq c = λ f n s.
    continued f c.args.offset.number c.args.translation c.args.offset.within n c.in-Compact.word c.with-grown.result.bits (omega arith) (subst (λ x. Shapes x f) c.in-Compact.is s) c.with-grown.ensures
    (sym c.read.ensures ∙ said_same c.read.result c.args.translation (sym c.eq.ensures ∙ c.if-eq.true))

pub returns-else-eq : goal.returns-else-eq
returns-else-eq c = λ f n s.
    broken f c.args.offset.number c.args.translation c.args.offset.within n c.in-Compact.word c.with-grown.result.bits (omega arith) (subst (λ x. Shapes x f) c.in-Compact.is s) c.with-grown.ensures
    (λ e. said_other c.read.result c.args.translation (sym c.eq.ensures ∙ c.if-eq.false) (c.read.ensures ∙ e))

pub returns-in-Mixed : goal.returns-in-Mixed
returns-in-Mixed c = λ f n s. mixed_stays f c.args.offset.number c.args.translation c.args.offset.within n (subst (λ x. Shapes x f) c.in-Mixed.is s)
