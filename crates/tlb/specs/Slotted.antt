-- What a TLB of slots means, by its slots and its hand.
use Rattle.std.specs.Prelude.{◌≡◌, ℕ, None, Option, List, replicate, MatchOption, slice_set}
use Rattle.words.specs.declared.translation.Translation.{Translation}
use Rattle.tlb.specs.declared.entry.Entry.{Entry}
use Rattle.tlb.specs.declared.slot.Slot as slot
use Rattle.tlb.specs.declared.enter.Enter as enter
use Rattle.tlb.specs.declared.hand.Hand.{Hand}
use Rattle.tlb.specs.declared.slot_tlb.SlotTlb.{SlotTlb}
use Rattle.tlb.specs.Entries.{entry_says}
use Rattle.tlb.specs.Meaning.{TlbMeaning}
use Rattle.tlb.specs.Slots.{Each, Becomes, Holds, MakesRoom, TakesIn, in_slot, slot_at, first_held, next_slot}

-- all slots are empty, and the hand is at the first
abbrev pub AllEmpty : {S : Type 0} {s : slot.Ghosts S} → SlotTlb S s → Type 0
AllEmpty u = (u.slots ≡ replicate 64 None) × (u.hand.at ≡ 0)

-- room was made in the row; then the slot at the place that was found, or else the one at the hand, emptied, took the entry in, and the hand went
-- on where no place was found
abbrev pub Stored : {S : Type 0} → MakesRoom S → TakesIn S → List (Option S) → Hand → Entry → ℕ → Translation → List (Option S) → Hand → Type 0
Stored {S} room taken xs h e p t ys g =
    (place : Option ℕ) × (row : List (Option S)) × (u : Option S) × room xs e p place row × taken (slot_at row place) e p t u
    × MatchOption place
    ((ys ≡ slice_set row h.at u) × (g.at ≡ next_slot h.at))
    (λ k. (ys ≡ slice_set row k u) × (g ≡ h))

module _ {S : Type 0} (s : slot.Ghosts S) where
  -- the meaning, but for what a load of an entry that says t of the page makes of slots and hand
  abbrev pub slots_that_store : (SlotTlb S s → Entry → ℕ → Translation → SlotTlb S s → Type 0) → TlbMeaning (SlotTlb S s)
  slots_that_store stored = record {
    pairs = λ x. Holds (in_slot s.held) x.slots;
    probed = λ x p r y. (r ≡ first_held (in_slot s.held) x.slots p) × (y ≡ x);
    loaded = λ x e p y. MatchOption (entry_says e p) (y ≡ x) (λ t. stored x e p t y);
    purged = λ x p y. Each (Becomes (λ a b. s.dropped a p b)) x.slots y.slots × (y.hand ≡ x.hand);
    flushed = λ x y. AllEmpty y;
  }

  abbrev pub slotted : enter.Ghosts S → TlbMeaning (SlotTlb S s)
  slotted f = slots_that_store (λ x e p t y. Stored f.room f.taken x.slots x.hand e p t y.slots y.hand)
