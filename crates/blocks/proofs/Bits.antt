-- What a compact word says when its offsets are others.
use Rattle.std.proofs.Common.{◌≡◌, ℕ, zero, suc, ◌+◌, ◌-◌, ◌*◌, ◌^◌, ◌<◌, Bool, true, false, cond, not, ◌&&◌, ◌||◌, MatchOption, Some, None, Option, sym, refl, ap, ◌∙◌, ap₂, ⊎_elim, pow-suc, arith}
use Rattle.std.proofs.lemmas.Bool.{cases_eq, cases_lt, eq-eqb, ne_eqb, or_right}
use Rattle.words.specs.declared.compact.CompactWord.{CompactWord}
use Rattle.words.specs.declared.translation.Translation.{Translation}
use Rattle.words.specs.declared.form.Form.TheVariants as form
use Rattle.words.specs.Layout.{bit, compact_word, offsets_in, frame_block_in, attributes_in, Offsets, plus, minus}
use Rattle.words.specs.Reading.{translation, said}
use Rattle.words.specs.Points.{at}
use Rattle.chains.proofs.Linking.{at_here, at_there}
use Rattle.blocks.specs.Shapes.{word_pages}
use Rattle.words.proofs.Flip.{one_bit, bit_added, high_bit}

-- what is said of the offset o, where it is among the word's
abbrev pub there : ℕ → ℕ → ℕ → Bool → Option Translation
there k a o b = cond b (Some (translation (k * 16 + o) a)) None

-- a word of known parts
pub said_made : (os k a o : ℕ) → k < 2 ^ 24 → a < 2 ^ 12 → said form.Compact (compact_word os k a) o ≡ there k a o (bit os o)
said_made os k a o h j =
    let w : ℕ = compact_word os k a in
    let offsets : offsets_in w ≡ os = omega arith in
    let block : frame_block_in w ≡ k = omega arith in
    let attributes : attributes_in w ≡ a = omega arith in
    ap (λ x. there (frame_block_in w) (attributes_in w) o (bit x o)) offsets ∙ ap₂ (λ x y. there x y o (bit os o)) block attributes

-- a word with other offsets
pub said_after : (w v : ℕ) (has : ℕ → Bool) → Offsets w has v → (o : ℕ) → said form.Compact v o ≡ there (frame_block_in w) (attributes_in w) o (has o)
said_after w v has e o =
    let r = e.rest in
    let block : frame_block_in v ≡ frame_block_in w = omega arith in
    let attributes : attributes_in v ≡ attributes_in w = omega arith in
    ap (there (frame_block_in v) (attributes_in v) o) (e.each o) ∙ ap₂ (λ x y. there x y o (has o)) block attributes

-- with one offset more
module _ (w v o : ℕ) (e : Offsets w (plus w (2 ^ o)) v) where
  pub said_grown : said form.Compact v o ≡ Some (translation (frame_block_in w * 16 + o) (attributes_in w))
  said_grown = said_after w v (plus w (2 ^ o)) e o ∙ ap (there (frame_block_in w) (attributes_in w) o) (or_right (bit (offsets_in w) o) _ (one_bit o o ∙ eq-eqb o o refl))

  pub said_kept : (k : ℕ) → (k ≡ o → ⊥) → said form.Compact v k ≡ said form.Compact w k
  said_kept k ne = said_after w v (plus w (2 ^ o)) e k ∙ ap (there (frame_block_in w) (attributes_in w) k) (none_more (bit (offsets_in w) k) _ (one_bit o k ∙ ne_eqb k o ne))
    where
      none_more : (a b : Bool) → b ≡ false → (a || b) ≡ a
      none_more true b e = refl
      none_more false b e = e

-- a number that is not zero has a bit
pub some_bit : (m n : ℕ) → 0 < n → n < 2 ^ m → (o : ℕ) × (o < m) × (bit n o ≡ true)
some_bit zero n p l = absurd (omega arith)
some_bit (suc m) n p l = ⊎_elim
    (λ low. let (o, h, b) = some_bit m n p low in (o, omega arith, b))
    (λ high. let two = pow-suc 2 m in
    let r : n - 2 ^ m < 2 ^ m = omega arith in
    (m, omega arith, ap (λ x. bit x m) (let e : n ≡ n - 2 ^ m + 2 ^ m = omega arith in e) ∙ bit_added (n - 2 ^ m) m (high_bit m m (n - 2 ^ m) r (omega arith))))
    (cases_lt n (2 ^ m))

-- with one offset less, or none where there was no other
pub said_without : (w : CompactWord) (v : Option CompactWord) (o : ℕ) → MatchOption v ((k : ℕ) → minus w.bits (2 ^ o) k ≡ false) (λ u. Offsets w.bits (minus w.bits (2 ^ o)) u.bits) → (k : ℕ)
    → word_pages v k ≡ at (said form.Compact w.bits) o None k
said_without w v o h k = ⊎_elim
    (λ e. left v h ∙ ap (there (frame_block_in w.bits) (attributes_in w.bits) k) (gone (bit (offsets_in w.bits) k) _ (one_bit o k ∙ eq-eqb k o e)) ∙ sym (at_here (said form.Compact w.bits) o None k e))
    (λ ne. left v h ∙ ap (there (frame_block_in w.bits) (attributes_in w.bits) k) (stays (bit (offsets_in w.bits) k) _ (one_bit o k ∙ ne_eqb k o ne)) ∙ sym (at_there (said form.Compact w.bits) o None k ne))
    (cases_eq k o)
  where
    left : (v : Option CompactWord) → MatchOption v ((k : ℕ) → minus w.bits (2 ^ o) k ≡ false) (λ u. Offsets w.bits (minus w.bits (2 ^ o)) u.bits)
        → word_pages v k ≡ there (frame_block_in w.bits) (attributes_in w.bits) k (minus w.bits (2 ^ o) k)
    left (Some u) h = said_after w.bits u.bits (minus w.bits (2 ^ o)) h k
    left None h = sym (ap (there (frame_block_in w.bits) (attributes_in w.bits) k) (h k))

    gone : (a b : Bool) → b ≡ true → (a && not b) ≡ false
    gone true true e = refl
    gone false true e = refl
    gone true false e = sym e
    gone false false e = refl

    stays : (a b : Bool) → b ≡ false → (a && not b) ≡ a
    stays true false e = refl
    stays false false e = refl
    stays true true e = sym e
    stays false true e = refl
