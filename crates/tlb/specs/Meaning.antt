-- What a TLB means: the pairs of a page and a translation that it may answer now, and what each call makes of it.
use Rattle.std.specs.Prelude.{◌≡◌, ℕ, ◌⊎◌, Some, Option, MatchOption}
use Rattle.words.specs.declared.translation.Translation.{Translation}
use Rattle.tlb.specs.declared.entry.Entry.{Entry}
use Rattle.tlb.specs.Entries.{entry_says}

-- either fact follows from the other
abbrev pub Same : Type 0 → Type 0 → Type 0
Same A B = (A → B) × (B → A)

pub record TlbMeaning (X : Type 0) : Type 1 where
  pub pairs : X → ℕ → Translation → Type 0
  -- the exact step of each call, from the TLB before to the TLB after
  pub probed : X → ℕ → Option Translation → X → Type 0
  pub loaded : X → Entry → ℕ → X → Type 0
  pub purged : X → ℕ → X → Type 0
  pub flushed : X → X → Type 0

-- two meanings that say the same of every TLB
pub record SameMeaning {X : Type 0} (a b : TlbMeaning X) : Type 0 where
  pub pairs : (s : X) (p : ℕ) (t : Translation) → Same (a.pairs s p t) (b.pairs s p t)
  pub probed : (s : X) (p : ℕ) (r : Option Translation) (u : X) → Same (a.probed s p r u) (b.probed s p r u)
  pub loaded : (s : X) (e : Entry) (p : ℕ) (u : X) → Same (a.loaded s e p u) (b.loaded s e p u)
  pub purged : (s : X) (p : ℕ) (u : X) → Same (a.purged s p u) (b.purged s p u)
  pub flushed : (s u : X) → Same (a.flushed s u) (b.flushed s u)

module _ {X : Type 0} (pairs : X → ℕ → Translation → Type 0) where
  -- the TLB has no pair of the page
  abbrev pub Lacks : X → ℕ → Type 0
  Lacks s p = (t : Translation) → pairs s p t → ⊥

  -- no page has two translations
  abbrev pub Agree : X → Type 0
  Agree s = (p : ℕ) (t u : Translation) → pairs s p t → pairs s p u → t ≡ u

  -- no pair was added
  abbrev pub Within : X → X → Type 0
  Within s u = (q : ℕ) (t : Translation) → pairs u q t → pairs s q t

  -- the pairs are the same
  abbrev pub SamePairs : X → X → Type 0
  SamePairs s u = (q : ℕ) (t : Translation) → Same (pairs u q t) (pairs s q t)

  -- an answer for the page: none exactly when there is no pair of it, else a pair that is still there
  abbrev pub Answers : X → ℕ → Option Translation → X → Type 0
  Answers s p r u = MatchOption r (Lacks s p) (λ t. pairs s p t × pairs u p t)

  -- an entry that says t of the page came in: the page has just that pair, and each pair was there or comes from the entry
  pub record Takes (s : X) (e : Entry) (p : ℕ) (t : Translation) (u : X) : Type 0 where
    pub has : pairs u p t
    pub only : (x : Translation) → pairs u p x → x ≡ t
    pub from : (q : ℕ) (x : Translation) → pairs u q x → pairs s q x ⊎ (entry_says e q ≡ Some x)

  -- an entry that says nothing of the page leaves the pairs as they were
  abbrev pub Loads : X → Entry → ℕ → X → Type 0
  Loads s e p u = MatchOption (entry_says e p) (SamePairs s u) (λ t. Takes s e p t u)
