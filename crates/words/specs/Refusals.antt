-- The refusals of a call, in their order: each is a condition and a number, and no number stands twice in a list.
use Rattle.std.specs.Prelude.{ℕ, List, [], ◌∷◌, MatchBool, ◌==◌}

-- n is the number of the first refusal that applies
abbrev pub First : List (Type 0 × ℕ) → ℕ → Type 0
First [] n = ⊥
First (r ∷ rs) n = MatchBool (n == r.1) r.0 ((r.0 → ⊥) × First rs n)

-- no refusal applies
abbrev pub Accepted : List (Type 0 × ℕ) → Type 0
Accepted [] = Unit {0}
Accepted (r ∷ rs) = (r.0 → ⊥) × Accepted rs
