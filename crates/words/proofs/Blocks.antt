-- The words of a map, read back.
use Rattle.std.proofs.Common.{◌≡◌, ℕ, zero, suc, ◌+◌, ◌-◌, ◌*◌, ◌/◌, ◌%◌, ◌^◌, ◌<◌, Bool, true, false, cond, ◌&&◌, eqb, ltb, leb, is_some, Some, None, Option, sym, refl, ap, ◌∙◌, ap₂, ⊎_elim, pow-suc, arith}
use native.Mathlib.Nat.{add-div_right, add-mul-div_right, div-eq_of_lt}
use Rattle.std.proofs.lemmas.Nat.{pow_pos, pow-add}
use Rattle.std.proofs.lemmas.Bool.{cases_lt, eq-eqb, ne_eqb, lt-ltb, le-leb, and_from, or_right, cond-true, cond-false}
use Rattle.words.specs.declared.translation.Translation.{Translation}
use Rattle.words.specs.declared.form.Form.{Form}
use Rattle.words.specs.declared.form.Form.TheVariants as form
use Rattle.words.specs.declared.word.Word.{Word}
use Rattle.words.specs.declared.word.Word.TheVariants.{Compact, Full}
use Rattle.words.specs.Layout.{bit, block_of, offset_of, page_at, compact_word, full_word, offsets_in, frame_block_in, attributes_in, frame_in, is_compact, is_full}
use Rattle.words.specs.Reading.{form_number, is_word, translation, said, answer_of, reading}
use Rattle.words.specs.Words.{form_of, bits_of}
use Rattle.words.specs.Blocks.{Mapping, Used, Placed, mapped_offsets, BlockWord, page_word}
use Rattle.words.proofs.Flip.{bit_le}
use Rattle.words.proofs.Translations.{translation_is}

offsets_lt : (m : Mapping) (b n : ℕ) → mapped_offsets m b n < 2 ^ n
offsets_lt m b zero = omega arith
offsets_lt m b (suc n) =
    let ih = offsets_lt m b n in
    let two = pow-suc 2 n in
    elim (is_some (m (page_at b n))) as (λ v. mapped_offsets m b n + cond v (2 ^ n) 0 < 2 ^ suc n) [ true ↦ omega arith | false ↦ omega arith ]

top_bit : (s : Bool) (x n : ℕ) → x < 2 ^ n → (x + cond s (2 ^ n) 0) / 2 ^ n % 2 ≡ cond s 1 0
top_bit true x n h = rw (add-div_right x (pow_pos n), div-eq_of_lt h) refl
top_bit false x n h = let e : x + 0 ≡ x = omega arith in rw (e, div-eq_of_lt h) refl

low_bit : (s : Bool) (x n o : ℕ) → o < n → (x + cond s (2 ^ n) 0) / 2 ^ o % 2 ≡ x / 2 ^ o % 2
low_bit true x n o h =
    let split : n ≡ suc (n - suc o) + o = omega arith in
    let power : 2 ^ n ≡ 2 ^ suc (n - suc o) * 2 ^ o = ap (λ k. 2 ^ k) split ∙ pow-add 2 (suc (n - suc o)) o in
    let two = pow-suc 2 (n - suc o) in
    rw (power, add-mul-div_right x (2 ^ suc (n - suc o)) (pow_pos o)) (omega arith)
low_bit false x n o h = ap (λ y. y / 2 ^ o % 2) (omega arith)

digit : (m : Mapping) (b n o : ℕ) → o < n → mapped_offsets m b n / 2 ^ o % 2 ≡ cond (is_some (m (page_at b o))) 1 0
digit m b zero o h = absurd (omega arith)
digit m b (suc n) o h =
    ⊎_elim
    (λ l. low_bit (is_some (m (page_at b n))) (mapped_offsets m b n) n o l ∙ digit m b n o l)
    (λ l. let e : o ≡ n = omega arith in rw e (top_bit (is_some (m (page_at b n))) (mapped_offsets m b n) n (offsets_lt m b n)))
    (cases_lt o n)

-- the bit of an offset says whether its page is mapped
pub mapped_bit : (m : Mapping) (b n o : ℕ) → o < n → bit (mapped_offsets m b n) o ≡ is_some (m (page_at b o))
mapped_bit m b n o h =
    ap (λ x. eqb x 1) (digit m b n o h)
    ∙ elim (is_some (m (page_at b o))) as (λ v. eqb (cond v 1 0) 1 ≡ v) [ true ↦ refl | false ↦ refl ]

used_offsets : (m : Mapping) (b : ℕ) → Used m b → 0 < mapped_offsets m b 16
used_offsets m b (o, h, (t, e)) =
    let l = bit_le (mapped_offsets m b 16) o (mapped_bit m b 16 o h ∙ ap is_some e) in
    let p = pow_pos o in
    omega arith

-- the parts of a word, and the word of its parts
module _ (os k a : ℕ) (h : k < 2 ^ 24) (j : a < 2 ^ 12) where
  offsets_back : offsets_in (compact_word os k a) ≡ os
  offsets_back = omega arith

  frame_block_back : frame_block_in (compact_word os k a) ≡ k
  frame_block_back = omega arith

  attributes_back : attributes_in (compact_word os k a) ≡ a
  attributes_back = omega arith

  compact_sound : 0 < os → is_compact (compact_word os k a) ≡ true
  compact_sound i =
      let e = offsets_back in
      let f = frame_block_back in
      let g = attributes_back in
      and_from (ltb 0 (offsets_in (compact_word os k a))) _ (lt-ltb 0 _ (omega arith)) (eq-eqb _ _ (omega arith))

module _ (f a : ℕ) (h : f < 2 ^ 28) (j : a < 2 ^ 12) where
  frame_back : frame_in (full_word f a) ≡ f
  frame_back = omega arith

  full_attributes_back : attributes_in (full_word f a) ≡ a
  full_attributes_back = omega arith

  full_sound : is_full (full_word f a) ≡ true
  full_sound =
      let e = frame_back in
      let g = full_attributes_back in
      or_right (eqb (full_word f a) 0) _ (eq-eqb _ _ (omega arith))

-- reading what is a word of its form
sound_reading : (g : Form) (w o : ℕ) → is_word g w ≡ true → o < 16 → reading (form_number g) w o ≡ answer_of (said g w o)
sound_reading form.Compact w o s h = cond-true (is_compact w && leb o 15) _ _ (and_from (is_compact w) _ s (le-leb o 15 (omega arith)))
sound_reading form.Full w o s h = cond-true (is_full w && leb o 15) _ _ (and_from (is_full w) _ s (le-leb o 15 (omega arith)))

-- reading a value of the word types
pub value_reading : (v : Word) (o : ℕ) → o < 16 → reading (form_number (form_of v)) (bits_of v) o ≡ answer_of (said (form_of v) (bits_of v) o)
value_reading (Compact c) o h = sound_reading form.Compact c.bits o c.sound h
value_reading (Full f) o h = sound_reading form.Full f.bits o f.sound h

pub full_says : (x : Option Translation) (o : ℕ) → said form.Full (page_word x) o ≡ x
full_says None o = refl
full_says (Some t) o =
    let f = t.frames in
    let a = t.bits in
    cond-false (eqb (full_word t.frame t.attributes) 0) _ _ (ne_eqb _ 0 (λ e. omega arith)) ∙ ap Some (sym (translation_is t _ _ (omega arith) (omega arith)))

page_sound : (x : Option Translation) → is_full (page_word x) ≡ true
page_sound None = refl
page_sound (Some t) = full_sound t.frame t.attributes t.frames t.bits

pub full_reading : (m : Mapping) (p o : ℕ) → o < 16 → reading 2 (page_word (m p)) o ≡ answer_of (m p)
full_reading m p o h = sound_reading form.Full (page_word (m p)) o (page_sound (m p)) h ∙ ap answer_of (full_says (m p) o)

-- what all mapped pages of a block share is in range
ranged_parts : (m : Mapping) (b k a : ℕ) → Used m b → Placed m b k a → (k < 2 ^ 24) × (a < 2 ^ 12)
ranged_parts m b k a (o, h, (t, e)) placed =
    let f = t.frames in
    let x = t.bits in
    let (i, j, l) = placed o t h e in
    (omega arith, omega arith)

placed_is : (o k a : ℕ) (t : Translation) → offset_of t.frame ≡ o → block_of t.frame ≡ k → t.attributes ≡ a → translation (k * 16 + o) a ≡ t
placed_is o k a t i j l = sym (translation_is t (k * 16 + o) a (omega arith) l)

compact_says : (m : Mapping) (b k a o : ℕ) → Placed m b k a → k < 2 ^ 24 → a < 2 ^ 12 → o < 16 → said form.Compact (compact_word (mapped_offsets m b 16) k a) o ≡ m (page_at b o)
compact_says m b k a o placed i j h =
    let os : ℕ = mapped_offsets m b 16 in
    let w : ℕ = compact_word os k a in
    let here : bit (offsets_in w) o ≡ is_some (m (page_at b o)) = ap (λ x. bit x o) (offsets_back os k a i j) ∙ mapped_bit m b 16 o h in
    let says : translation (frame_block_in w * 16 + o) (attributes_in w) ≡ translation (k * 16 + o) a = ap₂ (λ x y. translation (x * 16 + o) y) (frame_block_back os k a i j) (attributes_back os k a i j) in
    ap (λ x. cond x (Some (translation (frame_block_in w * 16 + o) (attributes_in w))) None) here
    ∙ each (m (page_at b o)) (placed o) says
  where
    each : {y : Translation} (x : Option Translation) → ((t : Translation) → o < 16 → x ≡ Some t → (offset_of t.frame ≡ o) × (block_of t.frame ≡ k) × (t.attributes ≡ a)) → y ≡ translation (k * 16 + o) a → cond (is_some x) (Some y) None ≡ x
    each None p e = refl
    each (Some t) p e = let (c, d, l) = p t h refl in ap Some (e ∙ placed_is o k a t c d l)

pub compact_reading : (m : Mapping) (b w o : ℕ) → BlockWord m b w → o < 16 → reading 1 w o ≡ answer_of (m (page_at b o))
compact_reading m b w o (used, (k, a, placed, e)) h =
    let (i, j) = ranged_parts m b k a used placed in
    let os : ℕ = mapped_offsets m b 16 in
    ap (λ x. reading 1 x o) e
    ∙ sound_reading form.Compact (compact_word os k a) o (compact_sound os k a i j (used_offsets m b used)) h
    ∙ ap answer_of (compact_says m b k a o placed i j h)
