-- What a load makes of each TLB of slots, said as its own meaning says it.
use Rattle.std.proofs.Common.{◌≡◌, ℕ, Some, None, Option, IsSomeAnd, MatchOption, refl}
use Rattle.words.specs.declared.translation.Translation.{Translation}
use Rattle.tlb.specs.declared.entry.Entry.{Entry}
use Rattle.tlb.specs.declared.slot.Slot as slot
use Rattle.tlb.specs.declared.enter.Enter as enter
use Rattle.tlb.specs.declared.page_slot.PageSlot.{PageSlot}
use Rattle.tlb.specs.declared.partial_slot.PartialSlot.{PartialSlot}
use Rattle.tlb.specs.declared.slot_tlb.SlotTlb.{SlotTlb}
use Rattle.tlb.specs.Entries.{entry_says}
use Rattle.tlb.specs.Meaning.{Same, SameMeaning}
use Rattle.tlb.specs.OnePage.{page_slots, PageStored, one_page}
use Rattle.tlb.specs.PageSlots.{IsHeld, PageRoom}
use Rattle.tlb.specs.Partial.{block_slots, BlockStored, partial_subblock}
use Rattle.tlb.specs.PartialSlots.{IsSlot, BlockRoom}
use Rattle.tlb.specs.Slotted.{Stored, slots_that_store, slotted}

abbrev page_enters : enter.Ghosts PageSlot
page_enters = record { room = λ xs e. PageRoom xs; taken = λ o e p t u. IsSomeAnd u (IsHeld p t) }

abbrev block_enters : enter.Ghosts PartialSlot
block_enters = record { room = λ xs e p. BlockRoom xs e; taken = λ o e p t u. IsSomeAnd u (IsSlot e p t) }

same_some : {X : Type 0} (o : Option X) (A : Type 0) (B C : X → Type 0) → ((x : X) → Same (B x) (C x)) → Same (MatchOption o A B) (MatchOption o A C)
same_some None A B C h = ((λ a. a), λ a. a)
same_some (Some x) A B C h = h x

-- two meanings that differ in what a load stores
module _ {S : Type 0} (s : slot.Ghosts S) (l m : SlotTlb S s → Entry → ℕ → Translation → SlotTlb S s → Type 0) (stores : (x : SlotTlb S s) (e : Entry) (p : ℕ) (t : Translation) (y : SlotTlb S s) → Same (l x e p t y) (m x e p t y)) where
  same_but_stores : SameMeaning (slots_that_store s l) (slots_that_store s m)
  same_but_stores = record {
    pairs = λ x p t. ((λ h. h), λ h. h);
    probed = λ x p r y. ((λ h. h), λ h. h);
    loaded = λ x e p y. same_some (entry_says e p) (y ≡ x) (λ t. l x e p t y) (λ t. m x e p t y) (λ t. stores x e p t y);
    purged = λ x p y. ((λ h. h), λ h. h);
    flushed = λ x y. ((λ h. h), λ h. h);
  }

-- the slot that took something in
taken_some : {S : Type 0} (P : S → Type 0) (u : Option S) → IsSomeAnd u P → (n : S) × (u ≡ Some n) × P n
taken_some P (Some n) m = (n, refl, m)
taken_some P None m = absurd m

one_page_stores : (s : SlotTlb PageSlot page_slots) (e : Entry) (p : ℕ) (t : Translation) (u : SlotTlb PageSlot page_slots) → Same (Stored page_enters.room page_enters.taken s.slots s.hand e p t u.slots u.hand) ((n : PageSlot) × IsHeld p t n × PageStored s p n u)
one_page_stores s e p t u = (
  (λ (at, row, v, (place, same), took, stored). let (n, is, m) = taken_some (IsHeld p t) v took in (n, m, rw (is, place, same) at stored)),
  λ (n, m, stored). (_, _, Some n, (refl, refl), m, stored),
)

partial_stores : (s : SlotTlb PartialSlot block_slots) (e : Entry) (p : ℕ) (t : Translation) (u : SlotTlb PartialSlot block_slots) → Same (Stored block_enters.room block_enters.taken s.slots s.hand e p t u.slots u.hand) ((n : PartialSlot) × IsSlot e p t n × BlockStored s e n u)
partial_stores s e p t u = (
  (λ (at, row, v, (any, each), took, stored). let (n, is, m) = taken_some (IsSlot e p t) v took in let (slots, hand) = rw (is, any) at stored in (n, m, (row, each, slots, hand))),
  λ (n, m, (row, each, slots, hand)). (None, row, Some n, (refl, each), m, (slots, hand)),
)

pub same_one_page : SameMeaning (slotted page_slots page_enters) one_page
same_one_page = same_but_stores page_slots _ _ one_page_stores

pub same_partial : SameMeaning (slotted block_slots block_enters) partial_subblock
same_partial = same_but_stores block_slots _ _ partial_stores
