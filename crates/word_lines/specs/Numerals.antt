-- Numbers written in a base.
use Rattle.std.specs.Prelude.{ℕ, ◌^◌, Bool, true, false, cond, ◌&&◌, ◌||◌, List, [], ◌∷◌, Option, ◌==◌, nat_lt}
use Rattle.std.specs.Bool.{then_some}
use Rattle.std.specs.Str.Parse.{digits_value}
use Rattle.std.specs.Char.{digit_value}

-- each byte is a digit of the base; a letter of either case is a digit of ten or more
abbrev pub are_digits : ℕ → List ℕ → Bool
are_digits base [] = true
are_digits base (c ∷ cs) = nat_lt (digit_value c) base && are_digits base cs

-- one digit or more, and nothing else
abbrev pub is_numeral : ℕ → List ℕ → Bool
is_numeral base [] = false
is_numeral base (c ∷ cs) = are_digits base (c ∷ cs)

-- the number that a numeral writes, where it is below 2^64
abbrev pub number_in : ℕ → List ℕ → Option ℕ
number_in base cs = then_some (is_numeral base cs && nat_lt (digits_value base cs) (2 ^ 64)) (digits_value base cs)

-- the digits of a word, which 0x or 0X may stand before
abbrev pub digits_of_word : List ℕ → List ℕ
digits_of_word [] = []
digits_of_word (a ∷ []) = a ∷ []
digits_of_word (a ∷ b ∷ cs) = cond (a == 48 && (b == 120 || b == 88)) cs (a ∷ b ∷ cs)
