-- Sets of numbers as bits of words: one number in or out, and the first one from a number on.
use Rattle.std.proofs.Common.{◌≡◌, ℕ, zero, suc, ◌+◌, ◌-◌, ◌*◌, ◌/◌, ◌%◌, ◌^◌, ◌<◌, ◌≤◌, Bool, true, false, cond, not, ◌&&◌, ◌||◌, eqb, ltb, ◌≢◌, List, length, get_or, set, replicate, sym, refl, ap, ◌∙◌, subst, ⊎_elim, arith}
use mathlib.Core.Path.{fun_ext}
use native.Mathlib.Nat.{zero-div}
use lib.Bits.{bit_and, bit_or}
use lib.Count.{count_trailing_zeros, under}
use Rattle.std.proofs.lemmas.Nat.{shr-shr, shr_le}
use Rattle.std.proofs.lemmas.List.{get_or-set_same, get_or-set_other, get_or_past, get_or-replicate, length-replicate}
use Rattle.std.proofs.lemmas.Bool.{cases_eq, cases_lt, both_ways, eq-eqb, ne_eqb, eqb-true, lt-ltb, le-ltb, cond-true, cond-false}
use Rattle.words.specs.Layout.{bit}
use Rattle.words.specs.Points.{at}
use Rattle.words.proofs.Flip.{no_bit, one_bit, high_bit, complement_bit, cleared_bit, joined_bit}
use Rattle.reservation.specs.Sets.{in_words, NoneFrom, FirstFrom}

pub half_bit : (w j : ℕ) → bit w (suc j) ≡ bit (w / 2) j
half_bit w j = ap (λ x. eqb (x % 2) 1) (ap (λ k. w / 2 ^ k) (omega arith) ∙ sym (shr-shr w 1 j))

-- the lowest set bit of a number below a power of two
pub record Lowest (n w t : ℕ) : Type 0 where
  pub small : t < n
  pub here : bit w t ≡ true
  pub before : (j : ℕ) → j < t → bit w j ≡ false

lowest_half : (n w : ℕ) → w % 2 ≡ 0 → (t : ℕ) → Lowest n (w / 2) t → Lowest (suc n) w (suc t)
lowest_half n w e t i = record {
  small = let a = i.small in omega arith;
  here = half_bit w t ∙ i.here;
  before = below;
}
  where
    below : (j : ℕ) → j < suc t → bit w j ≡ false
    below zero h = ne_eqb (w / 2 ^ 0 % 2) 1 (λ x. omega arith)
    below (suc j) h = half_bit w j ∙ i.before j (omega arith)

lowest_odd : (n w : ℕ) → w % 2 ≡ 1 → Lowest (suc n) w 0
lowest_odd n w e = record { small = omega arith; here = eq-eqb (w / 2 ^ 0 % 2) 1 (omega arith); before = λ j h. absurd (omega arith) }

lowest_by : (n w d t : ℕ) → w % 2 ≡ d → (w % 2 ≡ 0 → Lowest n (w / 2) t) → Lowest (suc n) w (under d t)
lowest_by n w zero t e i = lowest_half n w e t (i e)
lowest_by n w (suc d) t e i = lowest_odd n w (omega arith)

pub lowest_bit : (n w : ℕ) → 0 < w → w < 2 ^ n → Lowest n w (count_trailing_zeros n w)
unfolding count_trailing_zeros
lowest_bit zero w p l = absurd (omega arith)
lowest_bit (suc n) w p l = lowest_by n w (w % 2) (count_trailing_zeros n (w / 2)) refl (λ e. let h : 2 ^ suc n ≡ 2 * 2 ^ n = omega arith in lowest_bit n (w / 2) (omega arith) (omega arith))

-- one bit of a word
pub bit_on : (w k : ℕ) → bit (bit_or w (2 ^ k)) ≡ at (bit w) k true
bit_on w k = fun_ext (λ j. joined_bit w (2 ^ k) j ∙ ap (λ b. bit w j || b) (one_bit k j) ∙ both (bit w j) (eqb j k))
  where
    both : (b c : Bool) → (b || c) ≡ cond c true b
    both true true = refl
    both true false = refl
    both false true = refl
    both false false = refl

pub bit_off : (n w k : ℕ) → w < 2 ^ n → 2 ^ k < 2 ^ n → bit (bit_and w (2 ^ n - 1 - 2 ^ k)) ≡ at (bit w) k false
bit_off n w k h l = fun_ext (λ j. cleared_bit n w (2 ^ k) j h l ∙ ap (λ b. bit w j && not b) (one_bit k j) ∙ both (bit w j) (eqb j k))
  where
    both : (b c : Bool) → (b && not c) ≡ cond c false b
    both true true = refl
    both true false = refl
    both false true = refl
    both false false = refl

-- the word of a number is written with that number in or out
pub put_word : (ws : List ℕ) (k v : ℕ) (on : Bool) → k / 64 < length ws → bit v ≡ at (bit (get_or ws (k / 64) 0)) (k % 64) on → in_words (set ws (k / 64) v) ≡ at (in_words ws) k on
put_word ws k v on l e = fun_ext (λ j.
    ⊎_elim
    (λ s. ap (λ x. bit x (j % 64)) (ap (λ i. get_or (set ws (k / 64) v) i 0) s ∙ get_or-set_same ws (k / 64) v 0 l)
    ∙ ap (λ f. f (j % 64)) e
    ∙ ⊎_elim
    (λ i. cond-true _ _ _ (eq-eqb (j % 64) (k % 64) i) ∙ sym (cond-true _ _ _ (eq-eqb j k (omega arith))))
    (λ i. cond-false _ _ _ (ne_eqb (j % 64) (k % 64) i) ∙ ap (λ x. bit (get_or ws x 0) (j % 64)) (sym s) ∙ sym (cond-false _ _ _ (ne_eqb j k (λ x. i (omega arith)))))
    (cases_eq (j % 64) (k % 64)))
    (λ s. let ne : j / 64 ≢ k / 64 = s in
    ap (λ x. bit x (j % 64)) (get_or-set_other ws (k / 64) (j / 64) v 0 ne) ∙ sym (cond-false _ _ _ (ne_eqb j k (λ x. s (ap (λ y. y / 64) x)))))
    (cases_eq (j / 64) (k / 64)))

-- no number past the words is in
pub past_words : (ws : List ℕ) (a : ℕ) → length ws ≤ a / 64 → NoneFrom (in_words ws) a
past_words ws a l k h = ap (λ x. bit x (k % 64)) (get_or_past ws (k / 64) 0 (omega arith)) ∙ no_bit (k % 64)

-- a number that is in has a word
pub in_words_below : (ws : List ℕ) (k : ℕ) → in_words ws k ≡ true → k < 64 * length ws
in_words_below ws k h = ⊎_elim (λ l. l) (λ l. absurd (both_ways _ (past_words ws k (omega arith) k (omega arith)) h)) (cases_lt k (64 * length ws))

at_word : (ws : List ℕ) (i j : ℕ) → j / 64 ≡ i → in_words ws j ≡ bit (get_or ws i 0) (j % 64)
at_word ws i j e = ap (λ x. bit (get_or ws x 0) (j % 64)) e

-- what is left of a word from a bit on
first_left : (ws : List ℕ) (a : ℕ) → get_or ws (a / 64) 0 < 2 ^ 64 → 0 < get_or ws (a / 64) 0 / 2 ^ (a % 64) → FirstFrom (in_words ws) a (a + count_trailing_zeros 64 (get_or ws (a / 64) 0 / 2 ^ (a % 64)))
first_left ws a h p =
    let w = get_or ws (a / 64) 0 in
    let s = a % 64 in
    let low = lowest_bit 64 (w / 2 ^ s) p (lower w s h) in
    let t = count_trailing_zeros 64 (w / 2 ^ s) in
    let up : bit w (s + t) ≡ true = sym (moved w s t) ∙ low.here in
    let l : s + t < 64 = ⊎_elim (λ x. x) (λ x. absurd (both_ways _ (high_bit 64 (s + t) w h x) up)) (cases_lt (s + t) 64) in
    let e : (a + t) % 64 ≡ s + t = omega arith in
    record {
      from = omega arith;
      here = at_word ws (a / 64) (a + t) (omega arith) ∙ ap (bit w) e ∙ up;
      before = λ j x y.
          let f : j % 64 ≡ s + (j - a) = omega arith in
          at_word ws (a / 64) j (omega arith) ∙ ap (bit w) f ∙ sym (moved w s (j - a)) ∙ low.before (j - a) (omega arith);
    }
  where
    moved : (w s j : ℕ) → bit (w / 2 ^ s) j ≡ bit w (s + j)
    moved w s j = ap (λ x. eqb (x % 2) 1) (shr-shr w s j)

    lower : (w s : ℕ) → w < 2 ^ 64 → w / 2 ^ s < 2 ^ 64
    lower w s h = let a = shr_le w s in omega arith

-- what is left of a word has nothing
none_left : (ws : List ℕ) (a : ℕ) → get_or ws (a / 64) 0 / 2 ^ (a % 64) ≡ 0 → (j : ℕ) → a ≤ j → j < 64 * (a / 64 + 1) → in_words ws j ≡ false
none_left ws a z j x y =
    let w = get_or ws (a / 64) 0 in
    let e : j % 64 ≡ a % 64 + (j - a) = omega arith in
    at_word ws (a / 64) j (omega arith) ∙ ap (bit w) e
    ∙ ap (λ v. eqb (v % 2) 1) (sym (shr-shr w (a % 64) (j - a)))
    ∙ ap (λ v. bit v (j - a)) z ∙ no_bit (j - a)

-- the search for the first number from a on has come to b, in the word i, and r is what is left of the word from there on
pub record Searched (ws : List ℕ) (a i b r : ℕ) : Type 0 where
  pub from : a ≤ b
  pub word : b / 64 ≡ i
  pub within : i < length ws
  pub fits : get_or ws i 0 < 2 ^ 64
  pub rest : r ≡ get_or ws i 0 / 2 ^ (b % 64)
  pub none : (j : ℕ) → a ≤ j → j < b → in_words ws j ≡ false

left_of : (ws : List ℕ) (a i b r : ℕ) → Searched ws a i b r → get_or ws (b / 64) 0 / 2 ^ (b % 64) ≡ r
left_of ws a i b r s = ap (λ x. get_or ws x 0 / 2 ^ (b % 64)) s.word ∙ sym s.rest

none_in_word : (ws : List ℕ) (a i b r : ℕ) → Searched ws a i b r → r ≡ 0 → (j : ℕ) → a ≤ j → j < 64 * (i + 1) → in_words ws j ≡ false
none_in_word ws a i b r s z j x y = let e = s.word in ⊎_elim (s.none j x) (λ l. none_left ws b (left_of ws a i b r s ∙ z) j l (omega arith)) (cases_lt j b)

-- at the word, in the next one, past the last one, and where a bit is left
pub search_begun : (ws : List ℕ) (a w : ℕ) → a / 64 < length ws → w < 2 ^ 64 → w ≡ get_or ws (a / 64) 0 → Searched ws a (a / 64) a (w / 2 ^ (a % 64))
search_begun ws a w l h e = record { from = omega arith; word = refl; within = l; fits = omega arith; rest = ap (λ x. x / 2 ^ (a % 64)) e; none = λ j x y. absurd (omega arith) }

pub search_goes_on : (ws : List ℕ) (a i b r w : ℕ) → Searched ws a i b r → r ≡ 0 → i + 1 < length ws → w < 2 ^ 64 → w ≡ get_or ws (i + 1) 0 → Searched ws a (i + 1) (64 * (i + 1)) w
search_goes_on ws a i b r w s z l h e =
    let m = s.from in
    let n = s.word in
    record {
      from = omega arith;
      word = omega arith;
      within = l;
      fits = omega arith;
      rest = e ∙ whole _ _ (omega arith);
      none = none_in_word ws a i b r s z;
    }
  where
    whole : (v k : ℕ) → k ≡ 0 → v ≡ v / 2 ^ k
    whole v k z = omega arith ∙ ap (λ x. v / 2 ^ x) (sym z)

pub search_ended : (ws : List ℕ) (a i b r : ℕ) → Searched ws a i b r → r ≡ 0 → length ws ≤ i + 1 → NoneFrom (in_words ws) a
search_ended ws a i b r s z l j x = ⊎_elim (none_in_word ws a i b r s z j x) (λ h. past_words ws j (omega arith) j (omega arith)) (cases_lt j (64 * (i + 1)))

pub search_found : (ws : List ℕ) (a i b r k : ℕ) → Searched ws a i b r → 0 < r → k ≡ b + count_trailing_zeros 64 r → FirstFrom (in_words ws) a k
search_found ws a i b r k s p e =
    let m = s.from in
    let fits = subst (λ x. get_or ws x 0 < 2 ^ 64) (sym s.word) s.fits in
    let f = subst (λ x. 0 < x → FirstFrom (in_words ws) b (b + count_trailing_zeros 64 x)) (left_of ws a i b r s) (first_left ws b fits) p in
    let n = f.from in
    record { from = omega arith; here = ap (in_words ws) e ∙ f.here; before = λ j x y. ⊎_elim (s.none j x) (λ l. f.before j l (omega arith)) (cases_lt j b) }

-- sets that are empty, and full
pub no_words : (n k : ℕ) → in_words (replicate n 0) k ≡ false
no_words n k = ⊎_elim
    (λ l. ap (λ x. bit x (k % 64)) (get_or-replicate n (k / 64) 0 0 l) ∙ no_bit (k % 64))
    (λ l. ap (λ x. bit x (k % 64)) (get_or_past (replicate n 0) (k / 64) 0 (simp length-replicate l)) ∙ no_bit (k % 64))
    (cases_lt (k / 64) n)

pub all_words : (n k : ℕ) → in_words (replicate n (2 ^ 64 - 1)) k ≡ ltb k (64 * n)
all_words n k = ⊎_elim
    (λ l. ap (λ x. bit x (k % 64)) (get_or-replicate n (k / 64) (2 ^ 64 - 1) 0 l)
    ∙ eq-eqb _ 1 (let e = complement_bit 64 0 (k % 64) (omega arith) (omega arith) in let z = zero-div (2 ^ (k % 64)) in omega arith)
    ∙ sym (lt-ltb k (64 * n) (omega arith)))
    (λ l. ap (λ x. bit x (k % 64)) (get_or_past (replicate n (2 ^ 64 - 1)) (k / 64) 0 (simp length-replicate l)) ∙ no_bit (k % 64) ∙ sym (le-ltb k (64 * n) (omega arith)))
    (cases_lt (k / 64) n)

-- the lowest bit of a word that is not set
pub lowest_clear : (n w : ℕ) → w < 2 ^ n - 1 → (count_trailing_zeros n (2 ^ n - 1 - w) < n) × (bit w (count_trailing_zeros n (2 ^ n - 1 - w)) ≡ false)
lowest_clear n w l =
    let low = lowest_bit n (2 ^ n - 1 - w) (omega arith) (omega arith) in
    let e = complement_bit n w (count_trailing_zeros n (2 ^ n - 1 - w)) (omega arith) low.small in
    let h = eqb-true _ 1 low.here in
    (low.small, ne_eqb _ 1 (λ x. omega arith))

-- a word with a bit is not zero
pub bit_some : (w k : ℕ) → bit w k ≡ true → eqb w 0 ≡ false
bit_some w k h = ne_eqb w 0 (λ e. both_ways _ (ap (λ x. bit x k) e ∙ no_bit k) h)

-- one offset put into a set of bits, or taken out of it
pub one_with : (w m r k : ℕ) → m ≡ 2 ^ k → ((j : ℕ) → bit r j ≡ (bit w j || bit m j)) → bit r ≡ at (bit w) k true
one_with w m r k e each = fun_ext (λ j. each j ∙ ap (λ x. bit w j || bit x j) e ∙ ap (λ b. bit w j || b) (one_bit k j) ∙ both (bit w j) (eqb j k))
  where
    both : (b c : Bool) → (b || c) ≡ cond c true b
    both true true = refl
    both true false = refl
    both false true = refl
    both false false = refl

pub one_without : (w m r k : ℕ) → m ≡ 2 ^ k → ((j : ℕ) → bit r j ≡ (bit w j && not (bit m j))) → bit r ≡ at (bit w) k false
one_without w m r k e each = fun_ext (λ j. each j ∙ ap (λ x. bit w j && not (bit x j)) e ∙ ap (λ b. bit w j && not b) (one_bit k j) ∙ both (bit w j) (eqb j k))
  where
    both : (b c : Bool) → (b && not c) ≡ cond c false b
    both true true = refl
    both true false = refl
    both false true = refl
    both false false = refl
