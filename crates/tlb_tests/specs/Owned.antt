-- What a slot that is moved holds, and what a dropped page makes of it.
use Rattle.std.specs.Prelude.{◌≡◌, ℕ, cond, Some, None, Option, ◌==◌}
use Rattle.words.specs.declared.translation.Translation.{Translation}
use Rattle.tlb_tests.specs.declared.owned.OwnedSlot.{OwnedSlot}

abbrev pub owned_held : OwnedSlot → ℕ → Option Translation
owned_held s q = cond (q == s.page.number) (Some s.translation) None

-- a slot that loses its page is empty
abbrev pub owned_dropped : OwnedSlot → ℕ → Option OwnedSlot → Type 0
owned_dropped s q u = u ≡ cond (s.page.number == q) None (Some s)
