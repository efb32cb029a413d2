-- Slots in a row: what is left when slots lose pages, and what a new slot brings.
use Rattle.std.proofs.Common.{◌≡◌, ℕ, true, zero, suc, ◌+◌, ◌<◌, ◌≤◌, ◌≢◌, eqb, ◌⊎◌, List, [], ◌∷◌, length, get_or, set, Some, None, Option, sym, refl, ap, ◌∙◌, subst, inl, inr, ⊎_elim, arith, MatchOption}
use Rattle.std.proofs.lemmas.Bool.{cond-true, eq-eqb}
use Rattle.words.specs.declared.translation.Translation.{Translation}
use Rattle.tlb.specs.declared.entry.Entry.{Entry}
use Rattle.tlb.specs.Meaning.{Takes}
use Rattle.tlb.specs.Choices.{left, none_either}
use Rattle.tlb.specs.RowLaws.{one}
use Rattle.tlb.specs.Entries.{entry_says}
use Rattle.tlb.specs.Slots.{Holding, Dropping, Keeping, MakesRoom, TakesIn, Holds, holders, in_slot, slot_at, next_slot, Becomes, Each, without_page, HeldOnce, SlotLaws, Says, RoomFor, EnterLaws}
use Rattle.tlb.specs.Slotted.{Stored}
use Rattle.tlb.specs.declared.hand.Hand.{Hand}

-- what is said by cases, at a known case
pub at_some : {X : Type 0} (o : Option X) (x : X) (A : Type 0) (B : X → Type 0) → Some x ≡ o → B x → MatchOption o A B
at_some o x A B e b = subst (λ y. MatchOption y A B) e b

module _ {S : Type 0} (held : S → ℕ → Option Translation) where
  -- no holder, no pair; one holder, one pair
  pub no_pair : (xs : List S) (q : ℕ) (t : Translation) → holders held xs q ≡ 0 → Holds held xs q t → ⊥
  no_pair [] q t z h = h
  no_pair (x ∷ xs) q t z (inl e) = let c = ap one e in omega arith
  no_pair (x ∷ xs) q t z (inr h) = no_pair xs q t (omega arith) h

  pub one_pair : (xs : List S) (q : ℕ) (t u : Translation) → holders held xs q ≤ 1 → Holds held xs q t → Holds held xs q u → t ≡ u
  one_pair [] q t u l h g = absurd h
  one_pair (x ∷ xs) q t u l (inl e) (inl d) = cc
  one_pair (x ∷ xs) q t u l (inr h) (inr g) = one_pair xs q t u (omega arith) h g
  one_pair (x ∷ xs) q t u l (inl e) (inr g) = let c = ap one e in absurd (no_pair xs q u (omega arith) g)
  one_pair (x ∷ xs) q t u l (inr h) (inl d) = let c = ap one d in absurd (no_pair xs q t (omega arith) h)

  -- no slot of ys holds more than that of xs at its place
  pub record Lessens (xs ys : List S) : Type 0 where
    pub long : length ys ≡ length xs
    pub each : (k : ℕ) (d : S) (q : ℕ) (t : Translation) → k < length xs → held (get_or ys k d) q ≡ Some t → held (get_or xs k d) q ≡ Some t

  rest : (x y : S) (xs ys : List S) → Lessens (x ∷ xs) (y ∷ ys) → Lessens xs ys
  rest x y xs ys s = record { long = let e = s.long in omega arith; each = λ k d q t l. s.each (suc k) d q t (omega arith) }

  pub lessens_pair : (xs ys : List S) (q : ℕ) (t : Translation) → Lessens xs ys → Holds held ys q t → Holds held xs q t
  lessens_pair xs [] q t s h = absurd h
  lessens_pair [] (y ∷ ys) q t s h = let e = s.long in absurd (omega arith)
  lessens_pair (x ∷ xs) (y ∷ ys) q t s (inl e) = inl (s.each 0 x q t (omega arith) e)
  lessens_pair (x ∷ xs) (y ∷ ys) q t s (inr h) = inr (lessens_pair xs ys q t (rest x y xs ys s) h)

  pub lessens_holders : (xs ys : List S) (q : ℕ) → Lessens xs ys → holders held ys q ≤ holders held xs q
  lessens_holders xs [] q s = omega arith
  lessens_holders [] (y ∷ ys) q s = let e = s.long in absurd (omega arith)
  lessens_holders (x ∷ xs) (y ∷ ys) q s = let f = first (held y q) refl in let l = lessens_holders xs ys q (rest x y xs ys s) in omega arith
    where
      first : (o : Option Translation) → held y q ≡ o → one (held y q) ≤ one (held x q)
      first None e = let c = ap one e in omega arith
      first (Some t) e = let c = ap one e in let d = ap one (s.each 0 x q t (omega arith) e) in omega arith

  -- one slot written
  pub set_pair : (xs : List S) (i : ℕ) (y : S) (q : ℕ) (t : Translation) → Holds held (set xs i y) q t → Holds held xs q t ⊎ (held y q ≡ Some t)
  set_pair [] i y q t h = inl h
  set_pair (x ∷ xs) zero y q t (inl e) = inr e
  set_pair (x ∷ xs) zero y q t (inr h) = inl (inr h)
  set_pair (x ∷ xs) (suc i) y q t (inl e) = inl (inl e)
  set_pair (x ∷ xs) (suc i) y q t (inr h) = ⊎_elim (λ a. inl (inr a)) (λ a. inr a) (set_pair xs i y q t h)

  pub set_has : (xs : List S) (i : ℕ) (y : S) (q : ℕ) (t : Translation) → i < length xs → held y q ≡ Some t → Holds held (set xs i y) q t
  set_has [] i y q t l e = absurd (omega arith)
  set_has (x ∷ xs) zero y q t l e = inl e
  set_has (x ∷ xs) (suc i) y q t l e = inr (set_has xs i y q t (omega arith) e)

  set_holders : (xs : List S) (i : ℕ) (y : S) (q : ℕ) → holders held (set xs i y) q ≤ holders held xs q + one (held y q)
  set_holders [] i y q = omega arith
  set_holders (x ∷ xs) zero y q = omega arith
  set_holders (x ∷ xs) (suc i) y q = let h = set_holders xs i y q in omega arith

  -- a page that no slot holds, or none but the slot that is written
  none_holds : (xs : List S) (q : ℕ) → ((k : ℕ) (d : S) → k < length xs → held (get_or xs k d) q ≡ None) → holders held xs q ≡ 0
  none_holds [] q n = refl
  none_holds (x ∷ xs) q n = let c = ap one (n 0 x (omega arith)) in let h = none_holds xs q (λ k d l. n (suc k) d (omega arith)) in omega arith

  alone : (xs : List S) (i : ℕ) (y : S) (q : ℕ) → ((k : ℕ) (d : S) → k < length xs → k ≢ i → held (get_or xs k d) q ≡ None) → holders held (set xs i y) q ≤ one (held y q)
  alone [] i y q n = omega arith
  alone (x ∷ xs) zero y q n = let h = none_holds xs q (λ k d l. n (suc k) d (omega arith) (omega arith)) in omega arith
  alone (x ∷ xs) (suc i) y q n =
      let c = ap one (n 0 x (omega arith) (omega arith)) in
      let h = alone xs i y q (λ k d l ne. n (suc k) d (omega arith) (omega arith)) in
      omega arith

  -- slots that lost a page
  module _ (xs ys : List S) (p : ℕ) (lost : Each (λ s u. (q : ℕ) → held u q ≡ without_page (held s) p q) xs ys) where
    pub lost_lessens : Lessens xs ys
    lost_lessens = record { long = lost.0; each = λ k d q t l e. (left (eqb q p) _ t (sym (lost.1 k d l q) ∙ e)).1 }

    pub lost_gone : (t : Translation) → Holds held ys p t → ⊥
    lost_gone t h = no_pair ys p t (none_holds ys p (λ k d l. lost.1 k d (omega (arith, lost.0)) p ∙ cond-true _ _ _ (eq-eqb p p refl))) h

-- every slot lost the page as its kind of slot does
pub lost_pages : {S : Type 0} (held : Holding S) (dropped : Dropping S) (kept : Keeping S) → SlotLaws held dropped kept
    → (xs ys : List (Option S)) (p : ℕ) → Each (Becomes (λ s u. dropped s p u)) xs ys → Each (λ s u. (q : ℕ) → in_slot held u q ≡ without_page (in_slot held s) p q) xs ys
lost_pages {S} held dropped kept laws xs ys p each = (each.0, λ k d l q. slot (get_or xs k d) (get_or ys k d) (each.1 k d l) q)
  where
    slot : (o u : Option S) → Becomes (λ s u. dropped s p u) o u → (q : ℕ) → in_slot held u q ≡ without_page (in_slot held o) p q
    slot None u e q = ap (λ x. in_slot held x q) e ∙ sym (none_either (eqb q p))
    slot (Some s) u d q = laws.pages s p u d q

-- and such a row is still as its kind of slot keeps it
pub lost_kept : {S : Type 0} (held : Holding S) (dropped : Dropping S) (kept : Keeping S) → SlotLaws held dropped kept
    → (p : ℕ) (xs ys : List (Option S)) → kept xs ≡ true → Each (Becomes (λ s u. dropped s p u)) xs ys → kept ys ≡ true
lost_kept held dropped kept laws p xs ys k each = laws.purged xs ys p k each

-- where the slot may go for which room was made
abbrev Goes : Option ℕ → ℕ → Type 0
Goes place i = MatchOption place (Unit {0}) (λ k. k ≡ i)

-- what the slot at a place holds, the row holds
holds_at : {S : Type 0} (held : Holding S) (xs : List (Option S)) (place : Option ℕ) (q : ℕ) (t : Translation) → in_slot held (slot_at xs place) q ≡ Some t → Holds (in_slot held) xs q t
holds_at held xs None q t e = let z : None ≡ Some t = e in cc
holds_at held [] (Some k) q t e = let z : None ≡ Some t = e in cc
holds_at held (x ∷ xs) (Some zero) q t e = inl e
holds_at held (x ∷ xs) (Some (suc k)) q t e = inr (holds_at held xs (Some k) q t e)

-- the slot u, for which room was made, comes to a place
module _ {S : Type 0} (held : Holding S) (kept : Keeping S) (xs ys : List (Option S)) (u : Option S) (place : Option ℕ) (once : HeldOnce held xs) (room : RoomFor held kept xs place ys u) where
  fewer : Lessens (in_slot held) xs ys
  fewer = record { long = room.long; each = room.within }

  left_once : HeldOnce held ys
  left_once q = let a = lessens_holders (in_slot held) xs ys q fewer in let b = once q in omega arith

  module _ (i : ℕ) (goes : Goes place i) where
    elsewhere : (k : ℕ) → k ≢ i → place ≢ Some k
    elsewhere k ne e = ne (rw e at goes)

    stored_once : HeldOnce held (set ys i u)
    stored_once q = each (in_slot held u q) refl
      where
        each : (o : Option Translation) → in_slot held u q ≡ o → holders (in_slot held) (set ys i u) q ≤ 1
        each None e = let a = set_holders (in_slot held) ys i u q in let b = left_once q in let c = ap one e in omega arith
        each (Some t) e =
            let a = alone (in_slot held) ys i u q (λ k d l ne. room.free k d q t (omega (arith, room.long)) (elsewhere k ne) e) in
            let c = ap one e in
            omega arith

    stored_takes : (e : Entry) (p : ℕ) (t : Translation) → Says held (slot_at ys place) e p t u → i < length ys → Takes (Holds (in_slot held)) xs e p t (set ys i u)
    stored_takes e p t says l =
        let own = set_has (in_slot held) ys i u p t l says.own in
        record {
          has = own;
          only = λ x h. one_pair (in_slot held) (set ys i u) p x t (stored_once p) h own;
          from = λ q x h.
              ⊎_elim
              (λ a. inl (lessens_pair (in_slot held) xs ys q x fewer a))
              (λ a. ⊎_elim
              (λ b. inl (lessens_pair (in_slot held) xs ys q x fewer (holds_at held ys place q x b)))
              (λ b. inr b)
              (says.within q x a))
              (set_pair (in_slot held) ys i u q x h);
        }

-- an entry came into a row of slots
pub record Comes {S : Type 0} (held : Holding S) (kept : Keeping S) (xs : List (Option S)) (e : Entry) (p : ℕ) (t : Translation) (ys : List (Option S)) : Type 0 where
  pub once : HeldOnce held ys
  pub keeps : kept ys ≡ true
  pub takes : Takes (Holds (in_slot held)) xs e p t ys

module _ {S : Type 0} (held : Holding S) (kept : Keeping S) (room : MakesRoom S) (taken : TakesIn S) (laws : EnterLaws held kept room taken)
    (xs : List (Option S)) (h : Hand) (e : Entry) (p : ℕ) (t : Translation) (zs : List (Option S)) (g : Hand) (once : HeldOnce held xs) (keeps : kept xs ≡ true) (long : length xs ≡ 64) (says : entry_says e p ≡ Some t) where
  pub comes : Stored room taken xs h e p t zs g → Comes held kept xs e p t zs
  comes (place, ys, u, made, took, set_so) = at_place place (laws.frees xs e p t place ys u once keeps says made took) (laws.says xs e p t place ys u once keeps says made took) set_so
    where
      goes_to : (place : Option ℕ) (i : ℕ) → Goes place i → i < 64 → RoomFor held kept xs place ys u → Says held (slot_at ys place) e p t u → zs ≡ set ys i u → Comes held kept xs e p t zs
      goes_to place i goes l free said same = subst (Comes held kept xs e p t) (sym same) (record {
        once = stored_once held kept xs ys u place once free i goes;
        keeps = free.keeps i goes;
        takes = stored_takes held kept xs ys u place once free i goes e p t said (omega (arith, free.long));
      })

      at_place : (place : Option ℕ) → RoomFor held kept xs place ys u → Says held (slot_at ys place) e p t u
          → MatchOption place ((zs ≡ set ys h.at u) × (g.at ≡ next_slot h.at)) (λ k. (zs ≡ set ys k u) × (g ≡ h)) → Comes held kept xs e p t zs
      at_place None free said (same, _) = goes_to None h.at tt h.within free said same
      at_place (Some k) free said (same, _) = goes_to (Some k) k refl (let l = free.inside k refl in omega arith) free said same
