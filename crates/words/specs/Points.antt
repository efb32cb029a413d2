-- Functions on numbers, changed at one point.
use Rattle.std.specs.Prelude.{ℕ, cond, ◌==◌}

-- f, but x at p
abbrev pub at : {X : Type 0} → (ℕ → X) → ℕ → X → ℕ → X
at f p x q = cond (q == p) x (f q)
