use Rattle.std.proofs.Common.{◌≡◌, ℕ, ◌<◌, get_or}
use Rattle.fills.specs.declared.underway.Waiting.{Waiting}
use Rattle.fills.proofs.fills.Fills.place.Given as goal

abbrev pub invariant-loop-i : goal.invariant-loop-i
invariant-loop-i l = (k : ℕ) → k < l.i → (d : Waiting) → (get_or l.self.waiting.items k d).page.number ≡ l.page.number → ⊥
