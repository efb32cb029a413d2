-- Sets of numbers, one bit each.
use Rattle.std.specs.Prelude.{◌≡◌, ℕ, ◌/◌, ◌%◌, ◌<◌, ◌≤◌, Bool, true, false, List, slice_index}
use Rattle.words.specs.Layout.{bit}
use Rattle.reservation.specs.declared.bit_set.BitSet.{BitSet}

-- bit k of a row of words of 64 bits
abbrev pub in_words : List ℕ → ℕ → Bool
in_words ws k = bit (slice_index ws (k / 64)) (k % 64)

-- the number k is in the set
abbrev pub has : {n : ℕ} → BitSet n → ℕ → Bool
has s k = in_words s.words k

-- no number from a on passes the test
abbrev pub NoneFrom : (ℕ → Bool) → ℕ → Type 0
NoneFrom test a = (k : ℕ) → a ≤ k → test k ≡ false

-- k is the first number from a on that passes the test
pub record FirstFrom (test : ℕ → Bool) (a k : ℕ) : Type 0 where
  pub from : a ≤ k
  pub here : test k ≡ true
  pub before : (j : ℕ) → a ≤ j → j < k → test j ≡ false
