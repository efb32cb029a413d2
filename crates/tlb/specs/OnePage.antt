-- What the one-page TLB means, by its slots and its hand.
use Rattle.std.specs.Prelude.{◌≡◌, ℕ, true, Some, MatchOption, slice_set}
use Rattle.tlb.specs.declared.slot.Slot as slot
use Rattle.tlb.specs.declared.page_slot.PageSlot.{PageSlot}
use Rattle.tlb.specs.declared.slot_tlb.SlotTlb.{SlotTlb}
use Rattle.tlb.specs.Meaning.{TlbMeaning}
use Rattle.tlb.specs.PageSlots.{page_held, page_dropped, IsHeld}
use Rattle.tlb.specs.Slots.{in_slot, first_place, next_slot}
use Rattle.tlb.specs.Slotted.{slots_that_store}

abbrev pub page_slots : slot.Ghosts PageSlot
page_slots = record { held = page_held; dropped = page_dropped; kept = λ xs. true }

-- the slot n went to the page's own slot, or else to the slot at the hand, which went on
abbrev pub PageStored : SlotTlb PageSlot page_slots → ℕ → PageSlot → SlotTlb PageSlot page_slots → Type 0
PageStored s p n u = MatchOption (first_place (in_slot page_held) s.slots p)
    ((u.slots ≡ slice_set s.slots s.hand.at (Some n)) × (u.hand.at ≡ next_slot s.hand.at))
    (λ k. (u.slots ≡ slice_set s.slots k (Some n)) × (u.hand ≡ s.hand))

abbrev pub one_page : TlbMeaning (SlotTlb PageSlot page_slots)
one_page = slots_that_store page_slots (λ s e p t u. (n : PageSlot) × IsHeld p t n × PageStored s p n u)
