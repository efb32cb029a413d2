-- Where a page is held at most once, the first slot that holds it is the only one.
use Rattle.std.specs.Prelude.{◌≡◌, ◌≢◌, ℕ, zero, suc, ◌<◌, ◌≤◌, Bool, true, false, cond, List, [], ◌∷◌, length, is_some, Some, None, Option, slice_index_or, refl}
use Rattle.std.specs.Option.{option_map}
use Rattle.std.proofs.Common.{ap, ◌∙◌, arith}
use Rattle.std.proofs.lemmas.Bool.{cond-true, cond-false}
use Rattle.words.specs.declared.translation.Translation.{Translation}
use Rattle.tlb.specs.Slots.{holders, first_place}

-- whether a slot holds a page, as a number
abbrev pub one : Option Translation → ℕ
one o = cond (is_some o) 1 0

none_of : (o : Option Translation) → one o ≡ 0 → o ≡ None
none_of None z = refl
none_of (Some t) z = absurd (omega arith)

module _ {S : Type 0} (held : S → ℕ → Option Translation) where
  none_held : (xs : List S) (p k : ℕ) (d : S) → holders held xs p ≡ 0 → k < length xs → held (slice_index_or xs k d) p ≡ None
  none_held [] p k d z l = absurd (omega arith)
  none_held (x ∷ xs) p zero d z l = none_of (held x p) (omega arith)
  none_held (x ∷ xs) p (suc k) d z l = none_held xs p k d (omega arith) (omega arith)

  pub only_first : (xs : List S) (p k : ℕ) (d : S) → holders held xs p ≤ 1 → k < length xs → first_place held xs p ≢ Some k → held (slice_index_or xs k d) p ≡ None
  only_first [] p k d once l away = absurd (omega arith)
  only_first (x ∷ xs) p zero d once l away = each (held x p) refl
    where
      each : (o : Option Translation) → held x p ≡ o → held x p ≡ None
      each None e = e
      each (Some t) e = absurd (away (cond-true _ _ _ (ap is_some e)))
  only_first (x ∷ xs) p (suc k) d once l away = each (held x p) refl (only_first xs p k d (omega arith) (omega arith))
    where
      each : (o : Option Translation) → held x p ≡ o → (first_place held xs p ≢ Some k → held (slice_index_or xs k d) p ≡ None) → held (slice_index_or xs k d) p ≡ None
      each None e more = more (λ f. away (cond-false _ _ _ (ap is_some e) ∙ ap (option_map suc) f))
      each (Some t) e more = let c = ap one e in none_held xs p k d (omega arith) (omega arith)

  pub first_inside : (xs : List S) (p k : ℕ) → first_place held xs p ≡ Some k → k < length xs
  first_inside [] p k f = absurd (let z : None ≡ Some k = f in cc)
  first_inside (x ∷ xs) p k f = each (is_some (held x p)) (first_place held xs p) (λ j. first_inside xs p j) f
    where
      each : (b : Bool) (r : Option ℕ) → ((j : ℕ) → r ≡ Some j → j < length xs) → cond b (Some 0) (option_map suc r) ≡ Some k → k < suc (length xs)
      each true r more h = let z : 0 ≡ k = cc in omega arith
      each false None more h = let z : None ≡ Some k = h in cc
      each false (Some j) more h = let z : suc j ≡ k = cc in let l = more j refl in omega arith
