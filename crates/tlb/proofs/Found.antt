-- What a search over a row finds.
use Rattle.std.proofs.Common.{◌≡◌, ℕ, zero, suc, ◌+◌, ◌<◌, true, false, cond, List, [], ◌∷◌, length, get_or, Some, None, Option, MatchOption, IfSome, IsSomeAnd, is_some, sym, refl, ap, ◌∙◌, subst, arith, inl, inr, ⊎_elim}
use Rattle.std.proofs.lemmas.Bool.{cond-true, cond-false}
use Rattle.std.specs.Option.{option_map}
use Rattle.std.specs.List.{AllWithin, HoldsAt}
use Rattle.std.specs.Bool.{IsTrue}
use Rattle.std.specs.Iterator.Runs.{EveryRun, SomeRun, ItemsMapTo, AllItemsGive, IsFirstToGive, CallKeepsClosure}
use denote.Param.Members.{Mut, Called}
use Rattle.words.specs.declared.translation.Translation.{Translation}
use Rattle.tlb.specs.Slots.{Holds, first_place, first_held}
use Rattle.tlb.specs.Meaning.{Answers}

module _ {S : Type 0} (held : S → ℕ → Option Translation) where
  -- r is the first place of the page
  abbrev pub FirstAt : List S → ℕ → Option ℕ → Type 0
  FirstAt xs p r =
      MatchOption r
      (AllWithin (λ s. is_some (held s p) ≡ false) xs 0 (length xs))
      (λ k. (k < length xs) × HoldsAt (λ s. is_some (held s p) ≡ true) xs k × AllWithin (λ s. is_some (held s p) ≡ false) xs 0 k)

  pub placed : (xs : List S) (p : ℕ) (r : Option ℕ) → FirstAt xs p r → r ≡ first_place held xs p
  placed [] p None h = refl
  placed [] p (Some k) h = absurd (omega arith)
  placed (x ∷ xs) p None h =
      ap (option_map suc) (placed xs p None (λ k d a b. h (suc k) d (omega arith) (omega arith)))
      ∙ sym (cond-false (is_some (held x p)) _ _ (h 0 x (omega arith) (omega arith)))
  placed (x ∷ xs) p (Some zero) h = sym (cond-true (is_some (held x p)) _ _ (h.1 x))
  placed (x ∷ xs) p (Some (suc k)) (l, here, before) =
      ap (option_map suc) (placed xs p (Some k) (omega arith, here, λ j d a b. before (suc j) d (omega arith) (omega arith)))
      ∙ sym (cond-false (is_some (held x p)) _ _ (before 0 x (omega arith) (omega arith)))

  -- r is what the first place of the page has for it
  abbrev pub FirstHeld : List S → ℕ → Option Translation → Type 0
  FirstHeld xs p r =
      MatchOption r
      (AllWithin (λ s. held s p ≡ None) xs 0 (length xs))
      (λ t. (k : ℕ) × (k < length xs) × HoldsAt (λ s. held s p ≡ Some t) xs k × AllWithin (λ s. held s p ≡ None) xs 0 k)

  pub found : (xs : List S) (p : ℕ) (r : Option Translation) → FirstHeld xs p r → r ≡ first_held held xs p
  found [] p None h = refl
  found [] p (Some t) h = absurd (omega arith)
  found (x ∷ xs) p None h =
      found xs p None (λ k d a b. h (suc k) d (omega arith) (omega arith))
      ∙ sym (cond-false (is_some (held x p)) _ _ (ap is_some (h 0 x (omega arith) (omega arith))))
  found (x ∷ xs) p (Some t) (zero, l, here, before) = sym (cond-true (is_some (held x p)) _ _ (ap is_some (here x)) ∙ here x)
  found (x ∷ xs) p (Some t) (suc k, l, here, before) =
      found xs p (Some t) (k, omega arith, here, λ j d a b. before (suc j) d (omega arith) (omega arith))
      ∙ sym (cond-false (is_some (held x p)) _ _ (ap is_some (before 0 x (omega arith) (omega arith))))

  -- the first pair of a page is a pair, and there is none where none is found
  first_answers : (xs : List S) (p : ℕ) → Answers (Holds held) xs p (first_held held xs p) xs
  first_answers [] p = λ t h. h
  first_answers (x ∷ xs) p = each (held x p) (first_held held xs p) refl (first_answers xs p)
    where
      each : (o r : Option Translation) → held x p ≡ o → Answers (Holds held) xs p r xs → Answers (Holds held) (x ∷ xs) p (cond (is_some o) o r) (x ∷ xs)
      each (Some t) r e h = (inl e, inl e)
      each None (Some t) e h = (inr h.0, inr h.1)
      each None None e h = λ t g. ⊎_elim (λ a. cc) (h t) g

  pub answers : (xs : List S) (p : ℕ) (r : Option Translation) → r ≡ first_held held xs p → Answers (Holds held) xs p r xs
  answers xs p r e = subst (λ o. Answers (Holds held) xs p o xs) (sym e) (first_answers xs p)

-- what `find_map` says of a run over xs, whose closure answers h and stays as it is
module _ {A B C F : Type 0} (v : A → B) (g : Mut F (A × Unit {0}) (Option C)) (f : F) (h : B → Option C) (closure : (x : A) (c : Option C) (q : F) → Called g f (x, tt) c q → (q ≡ f) × (c ≡ h (v x))) where
  reads : (o : Option A) (y : B) (c : Option C) → option_map v o ≡ Some y → IfSome o (λ x. Called g f (x, tt) c f) → h y ≡ c
  reads None y c e k = cc
  reads (Some x) y c e k = let (_, i) = closure x c f k in let j : v x ≡ y = cc in cc

  reads_some : (o : Option A) (y : B) (c : Option C) → option_map v o ≡ Some y → IsSomeAnd o (λ x. Called g f (x, tt) c f) → h y ≡ c
  reads_some (Some x) y c e k = reads (Some x) y c e k
  reads_some None y c e k = absurd k

pub first_mapped : {I A B C F : Type 0} {steps : I → Option A → I → Type 0} {v : A → B} {g : Mut F (A × Unit {0}) (Option C)} {f : F} (h : B → Option C) (xs : List B) (s : I) (r : Option C) (rest : I → List B)
    → EveryRun steps (λ p. ItemsMapTo p v (rest p.from)) → rest s ≡ xs
    → SomeRun steps s (λ p. MatchOption r (IsTrue p.whole × AllItemsGive p g f None) (λ y. (i : ℕ) × (i < p.len) × (p.len ≡ i + 1) × IsFirstToGive p g f (Some y) None i))
    → ((x : A) (c : Option C) (q : F) → Called g f (x, tt) c q → (q ≡ f) × (c ≡ h (v x)))
    → MatchOption r (AllWithin (λ y. h y ≡ None) xs 0 (length xs)) (λ t. (k : ℕ) × (k < length xs) × HoldsAt (λ y. h y ≡ Some t) xs k × AllWithin (λ y. h y ≡ None) xs 0 k)
first_mapped {C = C} {v = v} {g = g} {f = f} h xs s r rest every same (p, from, ran) closure = each r ran
  where
    items : ItemsMapTo p v xs
    items = subst (λ ys. ItemsMapTo p v ys) (ap rest from ∙ same) (every p p.seen)

    keeps : CallKeepsClosure g f
    keeps a c q k = (closure a.0 c q k).0

    each : (r : Option C)
        → MatchOption r (IsTrue p.whole × AllItemsGive p g f None) (λ y. (i : ℕ) × (i < p.len) × (p.len ≡ i + 1) × IsFirstToGive p g f (Some y) None i)
        → MatchOption r (AllWithin (λ y. h y ≡ None) xs 0 (length xs)) (λ t. (k : ℕ) × (k < length xs) × HoldsAt (λ y. h y ≡ Some t) xs k × AllWithin (λ y. h y ≡ None) xs 0 k)
    each None (whole, none) = λ k d a b. reads v g f h closure (p.at k) (get_or xs k d) None (items.2 k d (omega (arith, items.1 whole))) (none keeps k)
    each (Some t) (i, l, last, first) =
        let (here, before) = first keeps in (
          i,
          omega (arith, items.0),
          (λ d. reads_some v g f h closure (p.at i) (get_or xs i d) (Some t) (items.2 i d l) here),
          (λ k d a b. reads_some v g f h closure (p.at k) (get_or xs k d) None (items.2 k d (omega arith)) (before k b)),
        )
