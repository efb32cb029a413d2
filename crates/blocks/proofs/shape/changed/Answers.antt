use Rattle.std.proofs.Common.{Some, None, sym, ap, ◌∙◌, subst, refl}
use Rattle.words.specs.Points.{at}
use Rattle.chains.proofs.Linking.{at_here}
use Rattle.blocks.specs.Shapes.{Shapes, word_pages}
use Rattle.blocks.proofs.Bits.{said_without}
use Rattle.blocks.proofs.Shapes.{same_shape, written_twice, none_stays}
use Rattle.blocks.proofs.shape.changed.Goals.{in-Some, in-None}
use Rattle.blocks.proofs.shape.changed.Goals as goal

pub returns-in-Some-to : goal.returns-in-Some-to
returns-in-Some-to c =
    let o = c.args.offset.number in
    let f = at (word_pages c.args.word) o None in
    let rest : Shapes c.match-word.rest f = elim c.match-word.branch [
      | in-Some w ↦ subst (λ s. Shapes s f) (sym w.rest-is) (same_shape _ (word_pages w.without.result) f (λ k l. said_without w.in-Some.word w.without.result o w.without.ensures k ∙ ap (λ v. at (word_pages v) o None k) (sym w.in-Some.is)) w.of_word-rest.ensures)
      | in-None w ↦ subst (λ s. Shapes s f) (sym w.rest-is) (λ k l. ap (λ v. at (word_pages v) o None k) w.in-None.is ∙ none_stays o k)
    ] in
    same_shape c.with.result _ _ (λ k l. written_twice (word_pages c.args.word) o None (Some c.in-Some-to.translation) k ∙ ap (λ x. at (word_pages c.args.word) o x k) (sym c.in-Some-to.is))
    (c.with.ensures f (at_here (word_pages c.args.word) o None o refl) rest)

pub returns-in-None-to : goal.returns-in-None-to
returns-in-None-to c =
    let o = c.args.offset.number in
    let f = at (word_pages c.args.word) o None in
    let rest : Shapes c.match-word.rest f = elim c.match-word.branch [
      | in-Some w ↦ subst (λ s. Shapes s f) (sym w.rest-is) (same_shape _ (word_pages w.without.result) f (λ k l. said_without w.in-Some.word w.without.result o w.without.ensures k ∙ ap (λ v. at (word_pages v) o None k) (sym w.in-Some.is)) w.of_word-rest.ensures)
      | in-None w ↦ subst (λ s. Shapes s f) (sym w.rest-is) (λ k l. ap (λ v. at (word_pages v) o None k) w.in-None.is ∙ none_stays o k)
    ] in
    subst (λ x. Shapes c.match-word.rest (at (word_pages c.args.word) o x)) (sym c.in-None-to.is) rest
