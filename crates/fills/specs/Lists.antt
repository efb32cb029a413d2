-- A list of fills.
use Rattle.std.specs.Prelude.{ℕ, Bool, true, cond, not, ◌&&◌, is_some, List, [], ◌∷◌, Some, None, Option, ◌==◌}
use Rattle.fills.specs.declared.underway.Underway.{Underway}
use Rattle.fills.specs.declared.underway.Waiting.{Waiting}

-- the first fill of the page
abbrev pub first_fill : List Waiting → ℕ → Option Underway
first_fill [] page = None
first_fill (w ∷ ws) page = cond (w.page.number == page) (Some w.underway) (first_fill ws page)

-- no page has two fills
abbrev pub once : List Waiting → Bool
once [] = true
once (w ∷ ws) = not (is_some (first_fill ws w.page.number)) && once ws
