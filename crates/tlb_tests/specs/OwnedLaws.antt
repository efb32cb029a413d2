-- Why a slot that is moved loses only the page that is dropped.
use Rattle.std.specs.Prelude.{◌≡◌, ℕ, true, refl, Option}
use Rattle.std.proofs.Common.{rules}
use Rattle.tlb.specs.Slots.{in_slot, without_page, SlotLaws}
use Rattle.tlb_tests.specs.declared.owned.OwnedSlot.{OwnedSlot}
use Rattle.tlb_tests.specs.Owned.{owned_held, owned_dropped}

dropped : (s : OwnedSlot) (p : ℕ) (u : Option OwnedSlot) → owned_dropped s p u → (q : ℕ) → in_slot owned_held u q ≡ without_page (owned_held s) p q
dropped s p u d q = search rules

pub drops : SlotLaws owned_held owned_dropped (λ xs. true)
drops = record { pages = dropped; empty = λ n. refl; purged = λ xs ys p k each. refl }
