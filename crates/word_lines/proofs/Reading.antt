-- A numeral that is read from its first digit on.
use Rattle.std.proofs.Common.{◌≡◌, ℕ, ◌+◌, ◌*◌, ◌^◌, ◌<◌, ◌≤◌, ◌&&◌, ltb, List, [], ◌∷◌, length, get_or, drop, None, Option, ap, ◌∙◌, ⊎_elim, le-mul_of_pos_right, arith}
use Rattle.std.specs.Bool.{then_some}
use Rattle.std.specs.Str.Parse.{digits_value_after}
use Rattle.std.specs.Char.{digit_value}
use Rattle.std.proofs.lemmas.List.{at_drop_more}
use Rattle.std.proofs.lemmas.Bool.{lt-ltb, le-ltb, and_right, cases_lt}
use Rattle.word_lines.specs.Numerals.{are_digits}

-- the number of digits that follow those of n
abbrev pub onward : ℕ → ℕ → List ℕ → Option ℕ
onward base n cs = then_some (are_digits base cs && ltb (digits_value_after base n cs) (2 ^ 64)) (digits_value_after base n cs)

one_digit : (base n c : ℕ) (cs : List ℕ) → digit_value c < base → onward base n (c ∷ cs) ≡ onward base (n * base + digit_value c) cs
one_digit base n c cs h = rw (lt-ltb (digit_value c) base h)

no_digit : (base n c : ℕ) (cs : List ℕ) → (digit_value c < base → ⊥) → onward base n (c ∷ cs) ≡ None
no_digit base n c cs h = let l : base ≤ digit_value c = omega arith in rw (le-ltb (digit_value c) base l)

-- a number only grows with more digits
grows : (base n : ℕ) (cs : List ℕ) → 1 ≤ base → n ≤ digits_value_after base n cs
grows base n [] h = omega arith
grows base n (c ∷ cs) h = omega (arith, grows base (n * base + digit_value c) cs h, le-mul_of_pos_right n h)

too_large : (base n : ℕ) (cs : List ℕ) → 1 ≤ base → 2 ^ 64 ≤ n → onward base n cs ≡ None
too_large base n cs h k =
    let l : 2 ^ 64 ≤ digits_value_after base n cs = omega (arith, grows base n cs h) in
    ap (λ t. then_some t (digits_value_after base n cs)) (and_right (are_digits base cs) _ (le-ltb (digits_value_after base n cs) (2 ^ 64) l))

-- the same at the byte at place i
module _ (base n i : ℕ) (cs : List ℕ) (h : i < length cs) where
  one_more : digit_value (get_or cs i 0) < base → onward base n (drop i cs) ≡ onward base (n * base + digit_value (get_or cs i 0)) (drop (i + 1) cs)
  one_more d = at_drop_more (onward base n) cs i 0 h ∙ one_digit base n (get_or cs i 0) (drop (i + 1) cs) d

  none_here : (digit_value (get_or cs i 0) < base → ⊥) → onward base n (drop i cs) ≡ None
  none_here d = at_drop_more (onward base n) cs i 0 h ∙ no_digit base n (get_or cs i 0) (drop (i + 1) cs) d

  pub none_after : 1 ≤ base → 2 ^ 64 ≤ n * base + digit_value (get_or cs i 0) → onward base n (drop i cs) ≡ None
  none_after b k =
      ⊎_elim
      (λ d. one_more d ∙ too_large base _ (drop (i + 1) cs) b k)
      (λ d. none_here (λ l. omega arith))
      (cases_lt (digit_value (get_or cs i 0)) base)
