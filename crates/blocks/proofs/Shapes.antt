-- The shape of pages, with one page more.
use Rattle.std.proofs.Common.{◌≡◌, ℕ, ◌+◌, ◌*◌, ◌^◌, ◌<◌, Bool, true, false, cond, ◌&&◌, eqb, ltb, Some, None, Option, is_some, sym, refl, ap, ◌∙◌, ⊎_elim, arith}
use Rattle.std.proofs.lemmas.Bool.{cases_eq, cases_lt, both_ways, and_parts, and_from, eqb-true, eq-eqb, ne_eqb, ltb-true, lt-ltb, le-ltb, cond-true, cond-false}
use Rattle.words.specs.declared.compact.CompactWord.{CompactWord}
use Rattle.words.specs.declared.translation.Translation.{Translation}
use Rattle.words.specs.declared.form.Form.TheVariants as form
use Rattle.words.specs.Layout.{block_of, offset_of, compact_word, offsets_in, frame_block_in, attributes_in, Offsets, plus}
use Rattle.words.specs.Reading.{translation, said, is_placed}
use Rattle.words.specs.Points.{at}
use Rattle.words.proofs.Flip.{one_bit}
use Rattle.std.specs.Option.{option_eq}
use Rattle.words.proofs.Translations.{same_parts, translation_is}
use Rattle.chains.proofs.Linking.{at_here, at_there}
use Rattle.blocks.specs.declared.shape.Shape.{Shape}
use Rattle.blocks.specs.declared.shape.Shape.TheVariants.{Empty, Compact, Mixed}
use Rattle.blocks.specs.Shapes.{Pages, Shapes, word_pages}
use Rattle.blocks.proofs.Bits.{there, said_made, said_grown, said_kept, some_bit}

pub same_shape : (s : Shape) (f g : Pages) → ((o : ℕ) → o < 16 → f o ≡ g o) → Shapes s f → Shapes s g
same_shape Empty f g e h = λ o l. sym (e o l) ∙ h o l
same_shape (Compact w) f g e h = λ o l. sym (e o l) ∙ h o l
same_shape Mixed f g e h = λ k a p. h k a (λ o t l q. p o t l (sym (e o l) ∙ q))

some_none : {t : Translation} → Some t ≡ None → ⊥
some_none e = both_ways _ (ap is_some e) refl

-- the page at the offset o is new, and mapped to t
module _ (f : Pages) (o : ℕ) (t : Translation) (l : o < 16) (new : f o ≡ None) where
  abbrev grown : Pages
  grown = at f o (Some t)

  -- a page that was there
  kept : (k : ℕ) (u : Translation) → f k ≡ Some u → grown k ≡ Some u
  kept k u e = at_there f o (Some t) k (λ i. some_none (sym e ∙ ap f i ∙ new)) ∙ e

  pub mixed_stays : Shapes Mixed f → Shapes Mixed grown
  mixed_stays h k a p = h k a (λ q u m e. p q u m (kept q u e))

  pub alone : Shapes Empty f → (w : ℕ) → is_placed o t ≡ true → w ≡ compact_word (2 ^ o) (block_of t.frame) t.attributes → (k : ℕ) → k < 16 → grown k ≡ said form.Compact w k
  alone none w placed e k m =
      let x = t.frames in
      let y = t.bits in
      let s = ap (λ v. said form.Compact v k) e ∙ said_made (2 ^ o) (block_of t.frame) t.attributes k (omega arith) y ∙ ap (there (block_of t.frame) t.attributes k) (one_bit o k) in
      ⊎_elim
      (λ i. at_here f o (Some t) k i ∙ sym (s ∙ ap (there (block_of t.frame) t.attributes k) (eq-eqb k o i) ∙ ap Some (sym (own k i))))
      (λ ne. at_there f o (Some t) k ne ∙ none k m ∙ sym (s ∙ ap (there (block_of t.frame) t.attributes k) (ne_eqb k o ne)))
      (cases_eq k o)
    where
      own : (k : ℕ) → k ≡ o → t ≡ translation (block_of t.frame * 16 + k) t.attributes
      own k i = let p = eqb-true (offset_of t.frame) o placed in translation_is t _ _ (omega arith) refl

  pub misplaced : is_placed o t ≡ false → Shapes Mixed grown
  misplaced n k a p = let (i, _, _) = p o t l (at_here f o (Some t) o refl) in both_ways _ n (eq-eqb (offset_of t.frame) o i)

  -- a word with one offset more
  module _ (w : CompactWord) (v : ℕ) (small : w.bits < 2 ^ 64) (says : Shapes (Compact w) f) (more : Offsets w.bits (plus w.bits (2 ^ o)) v) where
    pub continued : said form.Compact v o ≡ Some t → (k : ℕ) → k < 16 → grown k ≡ said form.Compact v k
    continued e k m = ⊎_elim
        (λ i. at_here f o (Some t) k i ∙ sym (ap (said form.Compact v) i ∙ e))
        (λ ne. at_there f o (Some t) k ne ∙ says k m ∙ sym (said_kept w.bits v o more k ne))
        (cases_eq k o)

    pub broken : (said form.Compact v o ≡ Some t → ⊥) → Shapes Mixed grown
    broken ne k a p =
        let b : ℕ = frame_block_in w.bits in
        let c : ℕ = attributes_in w.bits in
        let (some, _) = and_parts _ _ w.sound in
        let (q, m, has) = some_bit 16 (offsets_in w.bits) (ltb-true 0 _ some) (omega arith) in
        let u : f q ≡ Some (translation (b * 16 + q) c) = says q m ∙ ap (there b c q) has in
        let (_, i, j) = p q _ m (kept q _ u) in
        let (x, y, z) = p o t l (at_here f o (Some t) o refl) in
        ne (said_grown w.bits v o more ∙ ap Some (sym (translation_is t (b * 16 + o) c (omega arith) (omega arith))))

-- the first i of the pages
abbrev pub first : ℕ → Pages → Pages
first i f o = cond (ltb o i) (f o) None

module _ (f : Pages) where
  pub first_none : (o : ℕ) → o < 16 → None ≡ first 0 f o
  first_none o l = sym (cond-false (ltb o 0) (f o) None (le-ltb o 0 (omega arith)))

  pub first_all : (o : ℕ) → o < 16 → first 16 f o ≡ f o
  first_all o l = cond-true (ltb o 16) (f o) None (lt-ltb o 16 l)

  pub first_end : (i : ℕ) → first i f i ≡ None
  first_end i = cond-false (ltb i i) (f i) None (le-ltb i i (omega arith))

  earlier : (i o : ℕ) → (o ≡ i → ⊥) → first i f o ≡ first (i + 1) f o
  earlier i o ne = ⊎_elim
      (λ l. cond-true (ltb o i) (f o) None (lt-ltb o i l) ∙ sym (cond-true (ltb o (i + 1)) (f o) None (lt-ltb o (i + 1) (omega arith))))
      (λ g. cond-false (ltb o i) (f o) None (le-ltb o i g) ∙ sym (cond-false (ltb o (i + 1)) (f o) None (le-ltb o (i + 1) (omega arith))))
      (cases_lt o i)

  last : (i : ℕ) → first (i + 1) f i ≡ f i
  last i = cond-true (ltb i (i + 1)) (f i) None (lt-ltb i (i + 1) (omega arith))

  -- the page i is none
  pub first_skips : (i : ℕ) → f i ≡ None → (o : ℕ) → o < 16 → first i f o ≡ first (i + 1) f o
  first_skips i e o l = ⊎_elim
      (λ q. ap (first i f) q ∙ first_end i ∙ sym (ap (first (i + 1) f) q ∙ last i ∙ e))
      (λ ne. earlier i o ne)
      (cases_eq o i)

  pub first_adds : (i : ℕ) (t : Translation) → f i ≡ Some t → (o : ℕ) → o < 16 → at (first i f) i (Some t) o ≡ first (i + 1) f o
  first_adds i t e o l = ⊎_elim
      (λ q. at_here (first i f) i (Some t) o q ∙ sym (ap (first (i + 1) f) q ∙ last i ∙ e))
      (λ ne. at_there (first i f) i (Some t) o ne ∙ earlier i o ne)
      (cases_eq o i)

  -- the page i is written where the first i are right
  pub first_writes : (i : ℕ) (g : Pages) → ((o : ℕ) → o < 16 → g o ≡ first i f o) → (o : ℕ) → o < 16 → at g i (f i) o ≡ first (i + 1) f o
  first_writes i g e o l = ⊎_elim
      (λ q. at_here g i (f i) o q ∙ sym (ap (first (i + 1) f) q ∙ last i))
      (λ ne. at_there g i (f i) o ne ∙ e o l ∙ earlier i o ne)
      (cases_eq o i)

-- two translations, compared
abbrev equal : Translation → Translation → Bool
equal t u = eqb t.frame u.frame && eqb t.attributes u.attributes

pub said_same : (r : Option Translation) (t : Translation) → option_eq equal r (Some t) ≡ true → r ≡ Some t
said_same (Some u) t e = let (i, j) = and_parts (eqb u.frame t.frame) _ e in ap Some (same_parts u t (eqb-true _ _ i) (eqb-true _ _ j))
said_same None t e = absurd (both_ways false refl e)

pub said_other : (r : Option Translation) (t : Translation) → option_eq equal r (Some t) ≡ false → r ≡ Some t → ⊥
said_other r t f e = both_ways _ f (ap (λ x. option_eq equal x (Some t)) e ∙ and_from (eqb t.frame t.frame) _ (eq-eqb t.frame t.frame refl) (eq-eqb t.attributes t.attributes refl))

-- a page that is written twice
pub written_twice : (f : Pages) (o : ℕ) (x y : Option Translation) (k : ℕ) → at (at f o x) o y k ≡ at f o y k
written_twice f o x y k = ⊎_elim
    (λ e. at_here (at f o x) o y k e ∙ sym (at_here f o y k e))
    (λ ne. at_there (at f o x) o y k ne ∙ at_there f o x k ne ∙ sym (at_there f o y k ne))
    (cases_eq k o)

pub none_stays : (o k : ℕ) → at (word_pages None) o None k ≡ None
none_stays o k = ⊎_elim (λ e. at_here (word_pages None) o None k e) (λ ne. at_there (word_pages None) o None k ne) (cases_eq k o)
