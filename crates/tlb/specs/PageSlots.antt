-- What a slot for one page holds.
use Rattle.std.specs.Prelude.{◌≡◌, ℕ, cond, Some, None, Option, List, ◌==◌}
use Rattle.words.specs.declared.translation.Translation.{Translation}
use Rattle.tlb.specs.declared.page_slot.PageSlot.{PageSlot}
use Rattle.tlb.specs.Slots.{in_slot, first_place}

abbrev pub page_held : PageSlot → ℕ → Option Translation
page_held s q = cond (q == s.page.number) (Some s.translation) None

-- a slot that loses its page is empty
abbrev pub page_dropped : PageSlot → ℕ → Option PageSlot → Type 0
page_dropped s q u = u ≡ cond (s.page.number == q) None (Some s)

-- the slot holds the page p with the translation t
abbrev pub IsHeld : ℕ → Translation → PageSlot → Type 0
IsHeld p t s = (s.page.number ≡ p) × (s.translation ≡ t)

-- the page's new slot goes to the first slot that holds the page, if there is one; the row stays as it is
abbrev pub PageRoom : List (Option PageSlot) → ℕ → Option ℕ → List (Option PageSlot) → Type 0
PageRoom xs p at ys = (at ≡ first_place (in_slot page_held) xs p) × (ys ≡ xs)
