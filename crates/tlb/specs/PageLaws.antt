-- Why no page has two of the slots for one page: a new slot takes the place of the one that holds its page.
use Rattle.std.specs.Prelude.{◌≡◌, ℕ, true, refl, Some, None, Option, IsSomeAnd, List, length, ◌==◌, slice_index_or}
use Rattle.std.proofs.Common.{sym, ap, ◌∙◌, subst, inr, rules}
use Rattle.std.proofs.lemmas.Bool.{eqb-true, eq-eqb, cond-true}
use Rattle.words.specs.declared.translation.Translation.{Translation}
use Rattle.tlb.specs.declared.page_slot.PageSlot.{PageSlot}
use Rattle.tlb.specs.Entries.{entry_says}
use Rattle.tlb.specs.PageSlots.{page_held, page_dropped, IsHeld, PageRoom}
use Rattle.tlb.specs.Choices.{kept}
use Rattle.tlb.specs.Slots.{in_slot, without_page, HeldOnce, SlotLaws, RoomFor, EnterLaws}
use Rattle.tlb.specs.RowLaws.{only_first, first_inside}

-- a slot that holds a page holds no other
held_is : (n : PageSlot) (q : ℕ) (x : Translation) → page_held n q ≡ Some x → (q ≡ n.page.number) × (n.translation ≡ x)
held_is n q x h = let (a, b) = kept (q == n.page.number) (Some n.translation) x h in (eqb-true q n.page.number a, cc)

dropped : (s : PageSlot) (p : ℕ) (u : Option PageSlot) → page_dropped s p u → (q : ℕ) → in_slot page_held u q ≡ without_page (page_held s) p q
dropped s p u d q = search rules

pub drops : SlotLaws page_held page_dropped (λ xs. true)
drops = record { pages = dropped; empty = λ n. refl; purged = λ xs ys p k each. refl }

-- what the slot holds that took in t of the page p
taken_held : (p q : ℕ) (t x : Translation) (u : Option PageSlot) → IsSomeAnd u (IsHeld p t) → in_slot page_held u q ≡ Some x → (q ≡ p) × (t ≡ x)
taken_held p q t x (Some n) (i, j) h = let (a, b) = held_is n q x h in (a ∙ i, sym j ∙ b)
taken_held p q t x None m h = absurd m

taken_own : (p : ℕ) (t : Translation) (u : Option PageSlot) → IsSomeAnd u (IsHeld p t) → in_slot page_held u p ≡ Some t
taken_own p t (Some n) (i, j) = cond-true _ _ _ (eq-eqb p n.page.number (sym i)) ∙ ap Some j
taken_own p t None m = absurd m

frees : (xs : List (Option PageSlot)) (p : ℕ) (t : Translation) (place : Option ℕ) (ys : List (Option PageSlot)) (u : Option PageSlot) → HeldOnce page_held xs → PageRoom xs p place ys → IsSomeAnd u (IsHeld p t) → RoomFor page_held (λ zs. true) xs place ys u
frees xs p t place ys u once (at, same) m = record {
  long = ap length same;
  inside = λ k e. first_inside (in_slot page_held) xs p k (sym at ∙ e);
  within = λ k d q x l h. subst (λ zs. in_slot page_held (slice_index_or zs k d) q ≡ Some x) same h;
  free = λ k d q x l away h.
      let (a, b) = taken_held p q t x u m h in
      let none = only_first (in_slot page_held) xs p k d (once p) l (λ f. away (at ∙ f)) in
      rw (same, a) none;
  keeps = λ i goes. refl;
}

pub enters : EnterLaws page_held (λ xs. true) (λ xs e. PageRoom xs) (λ o e p t u. IsSomeAnd u (IsHeld p t))
enters = record {
  says = λ xs e p t place ys u once k s r m. record {
    own = taken_own p t u m;
    within = λ q x h. let (a, b) = taken_held p q t x u m h in inr (ap (entry_says e) a ∙ s ∙ ap Some b);
  };
  frees = λ xs e p t place ys u once k s. frees xs p t place ys u once;
}
