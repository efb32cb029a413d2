-- What a slot for pages of one block holds, and what it loses.
use Rattle.std.specs.Prelude.{◌≡◌, ◌≢◌, ℕ, Bool, true, cond, ◌&&◌, None, Some, IfSome, Option, List, ◌==◌}
use Rattle.words.specs.declared.translation.Translation.{Translation}
use Rattle.words.specs.declared.form.Form.TheVariants as form
use Rattle.words.specs.declared.word.Word.TheVariants as word
use Rattle.words.specs.Layout.{bit, block_of, offset_of, frame_block_in, attributes_in}
use Rattle.words.specs.Reading.{said}
use Rattle.words.specs.Words.{form_of}
use Rattle.tlb.specs.declared.entry.Entry.{Entry}
use Rattle.tlb.specs.declared.partial_slot.PartialSlot.{PartialSlot}
use Rattle.tlb.specs.declared.partial_slot.PartialSlot.TheVariants.{Subblock, Single}
use Rattle.tlb.specs.Entries.{entry_offsets}
use Rattle.tlb.specs.PageSlots.{page_held, IsHeld}
use Rattle.tlb.specs.Slots.{Each, Becomes, in_slot}

abbrev pub block_held : PartialSlot → ℕ → Option Translation
block_held (Subblock b w) q = cond (b.number == block_of q) (said form.Compact w.bits (offset_of q)) None
block_held (Single s) q = page_held s q

-- the page q is at an offset whose bit os has
abbrev pub at_offsets : ℕ → ℕ → Bool
at_offsets os q = bit os (offset_of q)

-- and it is of the block b
abbrev pub of_block : ℕ → ℕ → ℕ → Bool
of_block b os q = block_of q == b && at_offsets os q

-- the slot, which may be empty, holds a page that is picked
abbrev pub HoldsSome : (ℕ → Bool) → Option PartialSlot → Type 0
HoldsSome picked o = (q : ℕ) × (picked q ≡ true) × (in_slot block_held o q ≢ None)

-- a slot that differs at most in its offsets; a single page has no other
abbrev pub AllButOffsets : PartialSlot → PartialSlot → Type 0
AllButOffsets (Subblock b w) (Subblock c v) = (c.number ≡ b.number) × (frame_block_in v.bits ≡ frame_block_in w.bits) × (attributes_in v.bits ≡ attributes_in w.bits)
AllButOffsets (Single s) (Single r) = r ≡ s
AllButOffsets (Subblock b w) (Single r) = ⊥
AllButOffsets (Single s) (Subblock c v) = ⊥

-- the slot before and after it loses the picked pages
pub record Loses (picked : ℕ → Bool) (s : PartialSlot) (u : Option PartialSlot) : Type 0 where
  -- just these pages are gone
  pub pages : (q : ℕ) → in_slot block_held u q ≡ cond (picked q) None (block_held s q)
  -- one that loses its last page is empty
  pub empty : HoldsSome picked (Some s) → ((q : ℕ) → in_slot block_held u q ≡ None) → u ≡ None
  -- what is left is the slot but for its offsets
  pub rest : IfSome u (AllButOffsets s)

-- the picked pages are cleared: a slot that holds none of them is as it was
pub record Cleared (picked : ℕ → Bool) (s : PartialSlot) (u : Option PartialSlot) : Type 0 where
  pub loses : Loses picked s u
  pub same : (HoldsSome picked (Some s) → ⊥) → u ≡ Some s

abbrev pub block_dropped : PartialSlot → ℕ → Option PartialSlot → Type 0
block_dropped s p u = Cleared (λ q. q == p) s u

-- the slot of an entry that says t of the page p: a compact word becomes a subblock, a full word a single page
abbrev pub IsSlot : Entry → ℕ → Translation → PartialSlot → Type 0
IsSlot e p t (Subblock b w) = (b.number ≡ block_of e.page.number) × (e.word ≡ word.Compact w)
IsSlot e p t (Single s) = (form_of e.word ≡ form.Full) × IsHeld p t s

-- the entry's pages were cleared in every slot, and its new slot goes anywhere
abbrev pub BlockRoom : List (Option PartialSlot) → Entry → Option ℕ → List (Option PartialSlot) → Type 0
BlockRoom xs e at ys = (at ≡ None) × Each (Becomes (Cleared (of_block (block_of e.page.number) (entry_offsets e)))) xs ys
