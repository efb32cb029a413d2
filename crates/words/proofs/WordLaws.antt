-- The laws of the reader and of the words.
use Rattle.std.proofs.Common.{◌≡◌, ℕ, ◌^◌, ◌<◌, Bool, true, false, ◌&&◌, eqb, leb, Some, None, Err, Option, sym, refl, ap, ◌∙◌, subst, ap₂, ⊎_elim, arith}
use Rattle.std.proofs.Math.Bool.{Bool-set}
use Rattle.std.proofs.lemmas.Bool.{cases_Bool, cases_eq, ne_eqb, and_left, cond-false}
use Rattle.words.specs.declared.fault.ReadFault.TheVariants.{BadWord}
use Rattle.words.specs.declared.translation.Translation.{Translation}
use Rattle.words.specs.declared.form.Form.{Form}
use Rattle.words.specs.declared.form.Form.TheVariants as form
use Rattle.words.specs.declared.word.Word.{Word}
use Rattle.words.specs.declared.word.Word.TheVariants.{Compact as CompactValue, Full as FullValue}
use Rattle.words.specs.Layout.{block_of, offset_of, page_at, compact_word, is_compact, is_full}
use Rattle.words.specs.Reading.{form_number, is_word, said, answer_of, reading, answer_number}
use Rattle.words.specs.Words.{form_of, bits_of}
use Rattle.words.specs.Blocks.{Mapping, Used, Placed, mapped_offsets, StandsFor}
use Rattle.words.specs.Laws.{Tells, Accepts, IsValue, AcceptedAreValues, OneWord, SameWordSamePages}
use Rattle.words.proofs.Blocks.{value_reading, full_reading, compact_reading}

own_page : (p : ℕ) → page_at (block_of p) (offset_of p) ≡ p
own_page p = omega arith

-- what the reader finds in the word that stands for a page
pub stands_reading : (m : Mapping) (p : ℕ) (g : Form) (w : ℕ) → StandsFor m p g w → reading (form_number g) w (offset_of p) ≡ answer_of (m p)
stands_reading m p form.Compact w s = compact_reading m (block_of p) w (offset_of p) s (omega arith) ∙ ap (λ q. answer_of (m q)) (own_page p)
stands_reading m p form.Full w (n, e) = ap (λ x. reading 2 x (offset_of p)) e ∙ full_reading m p (offset_of p) (omega arith)

pub tells : (f w o : ℕ) → Tells f w o (answer_number (reading f w o))
tells f w o = record {
  own = λ m p g e s i. ap answer_number (ap₂ (λ x y. reading x w y) (sym e) (sym i) ∙ stands_reading m p g w s);
  neighbours = λ m p e s h. ap answer_number (ap (λ x. reading x w o) (sym e) ∙ compact_reading m (block_of p) w o s h);
}

never_bad : (x : Option Translation) → answer_of x ≡ Err BadWord → ⊥
never_bad (Some t) e = let z : ◌≡◌ {A = ℕ} 0 1 = cc in omega arith
never_bad None e = let z : ◌≡◌ {A = ℕ} 0 1 = cc in omega arith

same_answer : (x y : Option Translation) → answer_of x ≡ answer_of y → x ≡ y
same_answer (Some t) (Some u) e = cc
same_answer None None e = refl
same_answer (Some t) None e = absurd (let z : ◌≡◌ {A = ℕ} 0 1 = cc in omega arith)
same_answer None (Some u) e = absurd (let z : ◌≡◌ {A = ℕ} 0 1 = cc in omega arith)

values : (v : Word) → Accepts (form_number (form_of v)) (bits_of v)
values v o h e = never_bad (said (form_of v) (bits_of v) o) (sym (value_reading v o h) ∙ e)

-- what is no word of its form is refused
unsound : (g : Form) (w : ℕ) → is_word g w ≡ false → reading (form_number g) w 0 ≡ Err BadWord
unsound form.Compact w s = cond-false (is_compact w && leb 0 15) _ _ (and_left (is_compact w) _ s)
unsound form.Full w s = cond-false (is_full w && leb 0 15) _ _ (and_left (is_full w) _ s)

sound_if_accepted : (g : Form) (w : ℕ) → Accepts (form_number g) w → is_word g w ≡ true
sound_if_accepted g w acc = ⊎_elim (λ s. s) (λ s. absurd (acc 0 (omega arith) (unsound g w s))) (cases_Bool (is_word g w))

accepted : (f w : ℕ) → w < 2 ^ 64 → Accepts f w → (v : Word) × IsValue v f w
accepted f w small acc =
    ⊎_elim
    (λ e. (CompactValue (record { bits = w; sound = sound_if_accepted form.Compact w (subst (λ x. Accepts x w) e acc) }), (sym e, refl)))
    (λ ne. ⊎_elim
    (λ e. (FullValue (record { bits = w; sound = sound_if_accepted form.Full w (subst (λ x. Accepts x w) e acc) }), (sym e, refl)))
    (λ nf. absurd (acc 0 (omega arith) (cond-false (eqb f 1) _ _ (ne_eqb f 1 ne) ∙ cond-false (eqb f 2) _ _ (ne_eqb f 2 nf))))
    (cases_eq f 2))
    (cases_eq f 1)

pub accepted_are_values : AcceptedAreValues
accepted_are_values = record { accepted = accepted; values = values }

-- a used block is placed in one frame block, with one set of attributes
one_place : (m : Mapping) (b k l a c : ℕ) → Used m b → Placed m b k a → Placed m b l c → (k ≡ l) × (a ≡ c)
one_place m b k l a c (o, h, (t, e)) p q = let (i, j, x) = p o t h e in let (u, v, y) = q o t h e in (sym j ∙ v, sym x ∙ y)

pub one_word : OneWord
one_word m p form.Compact form.Compact w v (used, (k, a, placed, e)) (_, (l, c, others, d)) =
    let (i, j) = one_place m (block_of p) k l a c used placed others in
    (refl, e ∙ ap₂ (compact_word (mapped_offsets m (block_of p) 16)) i j ∙ sym d)
one_word m p form.Full form.Full w v (_, e) (_, d) = (refl, e ∙ sym d)
one_word m p form.Compact form.Full w v (_, (k, a, placed, _)) (n, _) = absurd (n (k, a, placed))
one_word m p form.Full form.Compact w v (n, _) (_, (k, a, placed, _)) = absurd (n (k, a, placed))

pub same_word_same_pages : SameWordSamePages
same_word_same_pages m n b w x y o h = same_answer (m (page_at b o)) (n (page_at b o)) (sym (compact_reading m b w o x h) ∙ compact_reading n b w o y h)

-- what is made of a number that passes a test is made in one way
one_made : {W : Type 0} (test : ℕ → Bool) (make : (b : ℕ) → test b ≡ true → W) (b d : ℕ) (x : test b ≡ true) (y : test d ≡ true) → b ≡ d → make b x ≡ make d y
one_made test make b d x y e = subst (λ n. (z : test n ≡ true) → make n z ≡ make d y) (sym e) (λ z. ap (make d) (Bool-set _ _ z y)) x

-- a value of the word types is its form and its bits
pub same_word : (w v : Word) → form_of w ≡ form_of v → bits_of w ≡ bits_of v → w ≡ v
same_word (CompactValue w) (CompactValue v) i e = one_made is_compact (λ b x. CompactValue (record { bits = b; sound = x })) w.bits v.bits w.sound v.sound e
same_word (FullValue w) (FullValue v) i e = one_made is_full (λ b x. FullValue (record { bits = b; sound = x })) w.bits v.bits w.sound v.sound e
same_word (CompactValue w) (FullValue v) i e = let z = ap form_number i in absurd (omega arith)
same_word (FullValue w) (CompactValue v) i e = let z = ap form_number i in absurd (omega arith)
