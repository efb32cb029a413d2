-- Slots in a row, by what each holds, and the hand that goes round them.
use Rattle.std.specs.Prelude.{◌≡◌, ◌≢◌, ℕ, suc, ◌+◌, ◌<◌, ◌≤◌, Bool, true, cond, ◌⊎◌, List, [], ◌∷◌, length, is_some, Some, None, Option, option_and_then, MatchOption, ◌==◌, slice_index_or, slice_set, replicate}
use Rattle.std.specs.Option.{option_map}
use Rattle.words.specs.declared.translation.Translation.{Translation}
use Rattle.words.specs.Points.{at}
use Rattle.tlb.specs.declared.entry.Entry.{Entry}
use Rattle.tlb.specs.Entries.{entry_says}

-- the slot after the hand's: 63 is followed by 0
abbrev pub next_slot : ℕ → ℕ
next_slot h = cond (h == 63) 0 (h + 1)

-- what is left of what a slot holds when the page p is gone
abbrev pub without_page : (ℕ → Option Translation) → ℕ → ℕ → Option Translation
without_page f p = at f p None

-- each element of ys comes from that of xs at its place
abbrev pub Each : {S : Type 0} → (S → S → Type 0) → List S → List S → Type 0
Each {S} R xs ys = (length ys ≡ length xs) × ((k : ℕ) (d : S) → k < length xs → R (slice_index_or xs k d) (slice_index_or ys k d))

-- a slot that becomes what R says, if there is something in it; an empty one stays empty
abbrev pub Becomes : {S : Type 0} → (S → Option S → Type 0) → Option S → Option S → Type 0
Becomes R o u = MatchOption o (u ≡ None) (λ s. R s u)

-- what a slot holds for each page
abbrev pub Holding : Type 0 → Type 0
Holding S = S → ℕ → Option Translation

-- a slot, a page that it drops, and what then becomes of the slot
abbrev pub Dropping : Type 0 → Type 1
Dropping S = S → ℕ → Option S → Type 0

-- a test of a row of slots
abbrev pub Keeping : Type 0 → Type 0
Keeping S = List (Option S) → Bool

-- a row before, an entry and the page that it is loaded for, a place or none, and the row after
abbrev pub MakesRoom : Type 0 → Type 1
MakesRoom S = List (Option S) → Entry → ℕ → Option ℕ → List (Option S) → Type 0

-- a slot before, an entry, the page that it is loaded for and its translation, and the slot after
abbrev pub TakesIn : Type 0 → Type 1
TakesIn S = Option S → Entry → ℕ → Translation → Option S → Type 0

module _ {S : Type 0} (held : Holding S) where
  -- some slot holds the translation of the page
  abbrev pub Holds : List S → ℕ → Translation → Type 0
  Holds [] p t = ⊥
  Holds (s ∷ ss) p t = (held s p ≡ Some t) ⊎ Holds ss p t

  -- how many slots hold the page
  abbrev pub holders : List S → ℕ → ℕ
  holders [] p = 0
  holders (s ∷ ss) p = cond (is_some (held s p)) 1 0 + holders ss p

  -- the first slot that holds the page
  abbrev pub first_place : List S → ℕ → Option ℕ
  first_place [] p = None
  first_place (s ∷ ss) p = cond (is_some (held s p)) (Some 0) (option_map suc (first_place ss p))

  -- what the first slot that holds the page has for it
  abbrev pub first_held : List S → ℕ → Option Translation
  first_held [] p = None
  first_held (s ∷ ss) p = cond (is_some (held s p)) (held s p) (first_held ss p)

  -- an empty slot holds nothing
  abbrev pub in_slot : Option S → ℕ → Option Translation
  in_slot o p = option_and_then (λ s. held s p) o

-- the slot at a place; an empty one where there is none
abbrev pub slot_at : {S : Type 0} → List (Option S) → Option ℕ → Option S
slot_at xs None = None
slot_at xs (Some k) = slice_index_or xs k None

-- no page is held twice
abbrev pub HeldOnce : {S : Type 0} → Holding S → List (Option S) → Type 0
HeldOnce held xs = (q : ℕ) → holders (in_slot held) xs q ≤ 1

-- what a kind of slot shows of what it holds and drops, and of what a row of it keeps
pub record SlotLaws {S : Type 0} (held : Holding S) (dropped : Dropping S) (kept : Keeping S) : Type 0 where
  -- only the page is gone
  pub pages : (s : S) (p : ℕ) (u : Option S) → dropped s p u → (q : ℕ) → in_slot held u q ≡ without_page (held s) p q
  pub empty : (n : ℕ) → kept (replicate n None) ≡ true
  pub purged : (xs ys : List (Option S)) (p : ℕ) → kept xs ≡ true → Each (Becomes (λ s u. dropped s p u)) xs ys → kept ys ≡ true

-- the slot u, which was o, has t of the page p, and of any page only what it had or what the entry e says
pub record Says {S : Type 0} (held : Holding S) (o : Option S) (e : Entry) (p : ℕ) (t : Translation) (u : Option S) : Type 0 where
  pub own : in_slot held u p ≡ Some t
  pub within : (q : ℕ) (x : Translation) → in_slot held u q ≡ Some x → (in_slot held o q ≡ Some x) ⊎ (entry_says e q ≡ Some x)

-- the row ys is xs with room for the slot u, at a place of the row or, where there is none, at any: no slot holds more than it did, no slot
-- at another place holds a page of u, and the row with u in it is as its kind of slot keeps it
pub record RoomFor {S : Type 0} (held : Holding S) (kept : Keeping S) (xs : List (Option S)) (place : Option ℕ) (ys : List (Option S)) (u : Option S) : Type 0 where
  pub long : length ys ≡ length xs
  pub inside : (k : ℕ) → place ≡ Some k → k < length xs
  pub within : (k : ℕ) (d : Option S) (q : ℕ) (t : Translation) → k < length xs → in_slot held (slice_index_or ys k d) q ≡ Some t → in_slot held (slice_index_or xs k d) q ≡ Some t
  pub free : (k : ℕ) (d : Option S) (q : ℕ) (t : Translation) → k < length xs → place ≢ Some k → in_slot held u q ≡ Some t → in_slot held (slice_index_or ys k d) q ≡ None
  pub keeps : (i : ℕ) → MatchOption place (Unit {0}) (λ k. k ≡ i) → kept (slice_set ys i u) ≡ true

-- what a kind of slot shows of how an entry that says t of the page p comes into a row
pub record EnterLaws {S : Type 0} (held : Holding S) (kept : Keeping S) (room : MakesRoom S) (taken : TakesIn S) : Type 0 where
  pub says : (xs : List (Option S)) (e : Entry) (p : ℕ) (t : Translation) (place : Option ℕ) (ys : List (Option S)) (u : Option S)
      → HeldOnce held xs → kept xs ≡ true → entry_says e p ≡ Some t → room xs e p place ys → taken (slot_at ys place) e p t u → Says held (slot_at ys place) e p t u
  pub frees : (xs : List (Option S)) (e : Entry) (p : ℕ) (t : Translation) (place : Option ℕ) (ys : List (Option S)) (u : Option S)
      → HeldOnce held xs → kept xs ≡ true → entry_says e p ≡ Some t → room xs e p place ys → taken (slot_at ys place) e p t u → RoomFor held kept xs place ys u
