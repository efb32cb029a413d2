-- Chains of numbers below 256. A link of 256 or more ends a chain.
use Rattle.std.specs.Prelude.{ℕ, zero, suc, Bool, true, false, cond, ◌&&◌, ◌||◌, List, [], ◌∷◌, ◌==◌, nat_le, nat_lt}

-- the nodes from i on, at most f of them
unfoldable pub walk : (ℕ → ℕ) → ℕ → ℕ → List ℕ
walk next zero i = []
walk next (suc f) i = cond (nat_lt i 256) (i ∷ walk next f (next i)) []

-- from i the nodes are l, each at home in b, and then the chain ends
unfoldable pub chained : (ℕ → ℕ) → (ℕ → ℕ) → ℕ → ℕ → List ℕ → Bool
chained next home b i [] = nat_le 256 i
chained next home b i (x ∷ l) = i == x && (nat_lt x 256 && (home x == b && chained next home b (next x) l))

-- the first node of l with the block, or 256
unfoldable pub node_with : (ℕ → ℕ) → ℕ → List ℕ → ℕ
node_with block_at b [] = 256
node_with block_at b (x ∷ l) = cond (block_at x == b) x (node_with block_at b l)

-- p is in l
unfoldable pub on : ℕ → List ℕ → Bool
on p [] = false
on p (x ∷ l) = x == p || on p l

-- l without the first i in it
unfoldable pub cut : ℕ → List ℕ → List ℕ
cut i [] = []
cut i (x ∷ l) = cond (x == i) l (x ∷ cut i l)

-- no block twice
unfoldable pub no_twice : (ℕ → ℕ) → List ℕ → Bool
no_twice block_at [] = true
no_twice block_at (x ∷ l) = node_with block_at (block_at x) l == 256 && no_twice block_at l
