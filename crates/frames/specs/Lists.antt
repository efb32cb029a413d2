-- A list of numbers in a row, and how often a number is in a list.
use Rattle.std.specs.Prelude.{ℕ, zero, suc, ◌+◌, Bool, false, cond, List, [], ◌∷◌, count_by, ◌==◌, nat_lt, slice_index_or}

-- the n numbers from b on
unfoldable pub rising : ℕ → ℕ → List ℕ
rising b zero = []
rising b (suc n) = b ∷ rising (b + 1) n

-- how often i is in the list
abbrev pub occurs : ℕ → List ℕ → ℕ
occurs i = count_by (λ x. i == x)

-- how often the place i has to be in the free list: once where there is such a place and it is not out
abbrev pub due : List Bool → ℕ → ℕ
due out i = cond (nat_lt i 4096) (cond (slice_index_or out i false) 0 1) 0
