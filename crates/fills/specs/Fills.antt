-- Which pages wait, each with its fill, and what the list of fills refuses.
use Rattle.std.specs.Prelude.{◌≡◌, ◌≢◌, ℕ, ◌^◌, List, [], ◌∷◌, Some, Option}
use Rattle.chains.specs.Counting.{Exactly}
use Rattle.fills.specs.declared.underway.Underway.{Underway}
use Rattle.fills.specs.declared.fills.Fills.{Fills}
use Rattle.fills.specs.Lists.{first_fill}

-- for each page its fill, where it has one under way
abbrev pub Waits : Type 0
Waits = ℕ → Option Underway

-- the fill that takes the frame
abbrev pub underway : ℕ → Underway
underway frame = record { frame = frame }

abbrev pub fill_of : Fills → Waits
fill_of fills = first_fill fills.waiting.items

abbrev pub IsWaiting : Waits → ℕ → Type 0
IsWaiting waits page = (fill : Underway) × (waits page ≡ Some fill)

-- exactly n pages wait
abbrev pub WaitingPages : Waits → ℕ → Type 0
WaitingPages waits n = Exactly n (2 ^ 52) (IsWaiting waits)

-- what is refused, in this order
abbrev pub add_refusals : Waits → ℕ → List (Type 0 × ℕ)
add_refusals waits page = (IsWaiting waits page, 2) ∷ (WaitingPages waits 32, 3) ∷ []

-- a fill is compared whole
abbrev pub remove_refusals : Waits → ℕ → Underway → List (Type 0 × ℕ)
remove_refusals waits page fill = (waits page ≢ Some fill, 6) ∷ []
