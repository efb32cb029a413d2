-- The pairs of two levels, what a full-form entry brings into the first, and what the two mean by what each means.
use Rattle.std.proofs.Common.{◌≡◌, ◌⊎◌, ℕ, cond, eqb, Some, None, Option, sym, refl, ap, ◌∙◌, subst, inl, inr, ⊎_elim, arith, MatchOption}
use Rattle.std.proofs.lemmas.Bool.{eq-eqb, eqb-true}
use Rattle.std.specs.Result.{result_ok}
use Rattle.words.specs.declared.translation.Translation.{Translation}
use Rattle.words.specs.declared.form.Form.{Form}
use Rattle.words.specs.declared.form.Form.TheVariants as form
use Rattle.words.specs.Layout.{offset_of, full_word}
use Rattle.words.specs.Reading.{form_number, reading}
use Rattle.words.proofs.Blocks.{full_reading}
use Rattle.tlb.specs.declared.entry.Entry.{Entry}
use Rattle.tlb.specs.declared.two_level.TwoLevelTlb.{TwoLevelTlb}
use Rattle.tlb.specs.Choices.{kept}
use Rattle.tlb.specs.Entries.{reaches, entry_says}
use Rattle.tlb.specs.Meaning.{Same, SameMeaning, SamePairs, TlbMeaning, Within, Loads, Takes}
use Rattle.tlb.specs.TwoLevel.{PageEntry, two_level}

abbrev says : Form → ℕ → ℕ → ℕ → Option Translation
says f p w q = cond (reaches f p q) (result_ok (reading (form_number f) w (offset_of q))) None

module _ (e : Entry) (p : ℕ) (t : Translation) (own : PageEntry e p t) where
  entry_is : (q : ℕ) → entry_says e q ≡ cond (eqb q p) (Some t) None
  entry_is q =
      let parts : entry_says e q ≡ says form.Full p (full_word t.frame t.attributes) q = cc (own.page, own.full, own.bits) in
      parts ∙ ap (λ r. cond (eqb q p) (result_ok r) None) (full_reading (λ x. Some t) q (offset_of q) (omega arith))

  says_own : entry_says e p ≡ Some t
  says_own = entry_is p ∙ ap (λ b. cond b (Some t) None) (eq-eqb p p refl)

  says_only : (q : ℕ) (x : Translation) → entry_says e q ≡ Some x → (q ≡ p) × (x ≡ t)
  says_only q x h = let (b, i) = kept (eqb q p) (Some t) x (sym (entry_is q) ∙ h) in (eqb-true q p b, cc)

  -- a TLB that was loaded with the entry has taken it in, and each of its pairs was there or is that of the page
  module _ {X : Type 0} (pairs : X → ℕ → Translation → Type 0) (s u : X) (loads : Loads pairs s e p u) where
    taken : Takes pairs s e p t u
    taken = subst (λ o. MatchOption o (SamePairs pairs s u) (λ x. Takes pairs s e p x u)) says_own loads

    pub within_or : (P : ℕ → Translation → Type 0) → ((q : ℕ) (x : Translation) → pairs s q x → P q x) → P p t → (q : ℕ) (x : Translation) → pairs u q x → P q x
    within_or P old new q x h = ⊎_elim (old q x) (λ says. let (i, j) = says_only q x says in rw (i, j) new) (taken.from q x h)

module _ {X Y : Type 0} (a : TlbMeaning X) (b : TlbMeaning Y) (s u : TwoLevelTlb X Y) where
  -- the first level, left as f by its probe, was loaded with what the second has for the page
  pub filled_within : (f : X) (e : Entry) (p : ℕ) (t : Translation) → PageEntry e p t → Within a.pairs s.first f → b.pairs s.second p t → Loads a.pairs f e p u.first → Within b.pairs s.second u.second → Within (two_level a b).pairs s u
  filled_within f e p t own within pair loads below q x (inl h) =
      within_or e p t own a.pairs f u.first loads ((two_level a b).pairs s) (λ k y l. inl (within k y l)) (inr pair) q x h
  filled_within f e p t own within pair loads below q x (inr h) = inr (below q x h)

-- the first level had none, and what the second answered was loaded into it
pub missed_first : {X Y : Type 0} (a : TlbMeaning X) (b : TlbMeaning Y) (e : Entry) (p : ℕ) (t : Translation) → PageEntry e p t → (s u : TwoLevelTlb X Y) (f : X) (q r : Option Translation)
    → a.probed s.first p q f → b.probed s.second p r u.second → a.loaded f e p u.first → q ≡ None → r ≡ Some t → (two_level a b).probed s p (Some t) u
missed_first a b e p t own s u f q r first second loaded i j = inr (f, record { first = rw i at first; second = rw j at second; filled = (e, own, loaded) })

same_both : {A B C D : Type 0} → Same A C → Same B D → Same (A × B) (C × D)
same_both (f, g) (h, i) = ((λ (a, b). (f a, h b)), λ (c, d). (g c, i d))

same_either : {A B C D : Type 0} → Same A C → Same B D → Same (A ⊎ B) (C ⊎ D)
same_either (f, g) (h, i) = (⊎_elim (λ a. inl (f a)) (λ b. inr (h b)), ⊎_elim (λ c. inl (g c)) (λ d. inr (i d)))

same_back : {X : Type 0} (a c : TlbMeaning X) → SameMeaning a c → SameMeaning c a
same_back a c l = record {
  pairs = λ s p t. let (f, g) = l.pairs s p t in (g, f);
  probed = λ s p r u. let (f, g) = l.probed s p r u in (g, f);
  loaded = λ s e p u. let (f, g) = l.loaded s e p u in (g, f);
  purged = λ s p u. let (f, g) = l.purged s p u in (g, f);
  flushed = λ s u. let (f, g) = l.flushed s u in (g, f);
}

module _ {X Y : Type 0} (a c : TlbMeaning X) (b d : TlbMeaning Y) (l : SameMeaning a c) (m : SameMeaning b d) where
  filled_over : (f u : X) (p : ℕ) (r : Option Translation)
      → MatchOption r (u ≡ f) (λ t. (e : Entry) × PageEntry e p t × a.loaded f e p u)
      → MatchOption r (u ≡ f) (λ t. (e : Entry) × PageEntry e p t × c.loaded f e p u)
  filled_over f u p None h = h
  filled_over f u p (Some t) (e, own, h) = (e, own, (l.loaded f e p u).0 h)

  probed_over : (s : TwoLevelTlb X Y) (p : ℕ) (r : Option Translation) (u : TwoLevelTlb X Y) → (two_level a b).probed s p r u → (two_level c d).probed s p r u
  probed_over s p r u (inl h) = inl (record { some = h.some; first = (l.probed s.first p r u.first).0 h.first; second = h.second })
  probed_over s p r u (inr (f, h)) =
      inr (f, record { first = (l.probed s.first p None f).0 h.first; second = (m.probed s.second p r u.second).0 h.second; filled = filled_over f u.first p r h.filled })

-- levels that mean the same make two levels that mean the same
pub same_levels : {X Y : Type 0} (a c : TlbMeaning X) (b d : TlbMeaning Y) → SameMeaning a c → SameMeaning b d → SameMeaning (two_level a b) (two_level c d)
same_levels a c b d l m = record {
  pairs = λ s p t. same_either (l.pairs s.first p t) (m.pairs s.second p t);
  probed = λ s p r u. (probed_over a c b d l m s p r u, probed_over c a d b (same_back a c l) (same_back b d m) s p r u);
  loaded = λ s e p u. same_both (l.loaded s.first e p u.first) (m.loaded s.second e p u.second);
  purged = λ s p u. same_both (l.purged s.first p u.first) (m.purged s.second p u.second);
  flushed = λ s u. same_both (l.flushed s.first u.first) (m.flushed s.second u.second);
}
