-- What the partial-subblock TLB means, by its slots and its hand.
use Rattle.std.specs.Prelude.{◌≡◌, true, Some, List, Option, slice_set}
use Rattle.words.specs.Layout.{block_of}
use Rattle.tlb.specs.declared.entry.Entry.{Entry}
use Rattle.tlb.specs.declared.slot.Slot as slot
use Rattle.tlb.specs.declared.partial_slot.PartialSlot.{PartialSlot}
use Rattle.tlb.specs.declared.slot_tlb.SlotTlb.{SlotTlb}
use Rattle.tlb.specs.Entries.{entry_offsets}
use Rattle.tlb.specs.Meaning.{TlbMeaning}
use Rattle.tlb.specs.PartialSlots.{block_held, block_dropped, of_block, Cleared, IsSlot}
use Rattle.tlb.specs.Slots.{Each, Becomes, next_slot}
use Rattle.tlb.specs.Slotted.{slots_that_store}

abbrev pub block_slots : slot.Ghosts PartialSlot
block_slots = record { held = block_held; dropped = block_dropped; kept = λ xs. true }

-- the entry's pages were cleared in every slot; then the slot n was filled, at the hand, which went on
abbrev pub BlockStored : SlotTlb PartialSlot block_slots → Entry → PartialSlot → SlotTlb PartialSlot block_slots → Type 0
BlockStored s e n u =
    (ys : List (Option PartialSlot)) × Each (Becomes (Cleared (of_block (block_of e.page.number) (entry_offsets e)))) s.slots ys
    × (u.slots ≡ slice_set ys s.hand.at (Some n)) × (u.hand.at ≡ next_slot s.hand.at)

abbrev pub partial_subblock : TlbMeaning (SlotTlb PartialSlot block_slots)
partial_subblock = slots_that_store block_slots (λ s e p t u. (n : PartialSlot) × IsSlot e p t n × BlockStored s e n u)
