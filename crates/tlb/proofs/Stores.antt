-- Where an entry is stored, by what the row and the hand are once a place was found or a slot emptied.
use Rattle.std.proofs.Common.{◌≡◌, ℕ, ◌<◌, List, length, get_or, set, Some, None, Option, MatchOption, ap, ◌∙◌, subst, arith, refl}
use Rattle.std.proofs.lemmas.List.{get_or-set_same, get_or_default, set-set}
use Rattle.tlb.specs.declared.hand.Hand.{Hand}
use Rattle.tlb.specs.Slots.{slot_at, next_slot}

-- the row zs, the hand g and the place at, by the row, the hand h and the place that was found, if one was
abbrev pub Chosen : {S : Type 0} → Option ℕ → List (Option S) → Hand → List (Option S) → ℕ → Hand → Type 0
Chosen place row h zs at g = MatchOption place
    ((zs ≡ set row h.at None) × (at ≡ h.at) × (g.at ≡ next_slot h.at))
    (λ k. (zs ≡ row) × (at ≡ k) × (g ≡ h))

pub found : {S : Type 0} (place : Option ℕ) (row : List (Option S)) (h : Hand) (zs : List (Option S)) (at k : ℕ) (g : Hand) → place ≡ Some k → zs ≡ row → at ≡ k → g ≡ h → Chosen place row h zs at g
found place row h zs at k g e i j m = rw e (i, j, m)

pub emptied : {S : Type 0} (place : Option ℕ) (row : List (Option S)) (h : Hand) (zs : List (Option S)) (at : ℕ) (g : Hand) → place ≡ None → zs ≡ set row h.at None → at ≡ h.at → g.at ≡ next_slot h.at → Chosen place row h zs at g
emptied place row h zs at g e i j m = rw e (i, j, m)

module _ {S : Type 0} (P : Option S → Type 0) (row zs : List (Option S)) (h : Hand) (at : ℕ) (g : Hand) (u d : Option S) (l : at < length zs) where
  pub own_slot : (place : Option ℕ) → length zs ≡ length row → Chosen place row h zs at g → P (get_or zs at d) → P (slot_at row place)
  own_slot None long (i, j, m) p = subst P (ap (λ x. get_or x at d) i ∙ ap (λ k. get_or (set row h.at None) k d) j ∙ get_or-set_same row h.at None d (omega arith)) p
  own_slot (Some k) long (i, j, m) p = subst P (ap (λ x. get_or x at d) i ∙ ap (λ x. get_or row x d) j ∙ get_or_default row k d None (omega (arith, ap length i))) p

  pub own_row : (place : Option ℕ) → Chosen place row h zs at g
      → MatchOption place ((set zs at u ≡ set row h.at u) × (g.at ≡ next_slot h.at)) (λ k. (set zs at u ≡ set row k u) × (g ≡ h))
  own_row None (i, j, m) = (rw (i, j) (set-set row h.at None u), m)
  own_row (Some k) (i, j, m) = (rw (i, j) refl, m)
