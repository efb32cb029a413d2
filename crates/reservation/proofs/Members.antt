-- The members of a set in their order: the first one, those behind it, and the first of them that passes a test.
use Rattle.std.proofs.Common.{◌≡◌, ℕ, zero, suc, ◌+◌, ◌-◌, ◌<◌, ◌≤◌, Bool, true, false, [], ◌∷◌, Option, MatchOption, refl, sym, ap, ap₂, ◌∙◌, subst, ⊎_elim, arith}
use Rattle.std.specs.List.{find}
use Rattle.std.proofs.lemmas.Bool.{cases_eq, cases_lt, cases_Bool, both_ways, cond-true, cond-false}
use Rattle.reservation.specs.declared.bit_set.BitSet.{BitSet}
use Rattle.reservation.specs.Index.{passing}
use Rattle.reservation.specs.Sets.{has, FirstFrom, NoneFrom}
use Rattle.reservation.proofs.Usages.{cases_map}

pub passing_none : (f : ℕ → Bool) (a n : ℕ) → NoneFrom f a → passing f a n ≡ []
unfolding passing
passing_none f a zero none = refl
passing_none f a (suc n) none = cond-false _ _ _ (none a (omega arith)) ∙ passing_none f (a + 1) n (λ k l. none k (omega arith))

-- the first, and those behind it
passing_first : (f : ℕ → Bool) (a n k m : ℕ) → FirstFrom f a k → k + 1 + m ≡ a + n → passing f a n ≡ k ∷ passing f (k + 1) m
unfolding passing
passing_first f a zero k m s e = let l = s.from in absurd (omega arith)
passing_first f a (suc n) k m s e = ⊎_elim
    (λ i. cond-true _ _ _ (ap f i ∙ s.here) ∙ ap₂ (λ x y. x ∷ passing f (x + 1) y) i (omega arith))
    (λ ne. let l : a < k = ⊎_elim (λ x. x) (λ x. let y = s.from in absurd (ne (omega arith))) (cases_lt a k) in
    cond-false _ _ _ (s.before a (omega arith) l)
    ∙ passing_first f (a + 1) n k m (record { from = omega arith; here = s.here; before = λ j x y. s.before j (omega arith) y }) (omega arith))
    (cases_eq a k)

-- what a look-up among the members tells: no member below n passes, or the one that is found does
abbrev pub Tells : (ℕ → Bool) → (ℕ → Bool) → ℕ → ℕ → Option ℕ → Type 0
Tells f t a n o = MatchOption o ((k : ℕ) → a ≤ k → k < n → f k ≡ true → t k ≡ false) (λ k. (k < n) × (t k ≡ true))

later : (f t : ℕ → Bool) (a n : ℕ) (o : Option ℕ) → (f a ≡ true → t a ≡ false) → Tells f t (a + 1) n o → Tells f t a n o
later f t a n o fails h = cases_map o _ _ _ _ h
    (λ none k l m x. ⊎_elim
    (λ e. ap t e ∙ fails (ap f (sym e) ∙ x))
    (λ ne. none k (⊎_elim (λ y. absurd (ne (omega arith))) (λ y. y) (cases_lt k (a + 1))) m x)
    (cases_eq k a))
    (λ k p. p)

pub found : (f t : ℕ → Bool) (a n m : ℕ) → m ≡ a + n → Tells f t a m (find t (passing f a n))
unfolding passing
found f t a zero m e = λ k l h. absurd (omega arith)
found f t a (suc n) m e =
    let i = found f t (a + 1) n m (omega arith) in
    ⊎_elim
    (λ y. subst (λ xs. Tells f t a m (find t xs)) (sym (cond-true _ _ _ y))
    (⊎_elim
    (λ z. subst (Tells f t a m) (sym (cond-true (t a) _ _ z)) (omega arith, z))
    (λ z. subst (Tells f t a m) (sym (cond-false (t a) _ _ z)) (later f t a m _ (λ x. z) i))
    (cases_Bool (t a))))
    (λ y. subst (λ xs. Tells f t a m (find t xs)) (sym (cond-false _ _ _ y)) (later f t a m _ (λ x. absurd (both_ways _ y x)) i))
    (cases_Bool (f a))

-- the members that come after the first
pub next_left : (s : BitSet 4) (a g k : ℕ) → FirstFrom (has s) a g → g < 256 → k ≡ g + 1 → passing (has s) a (256 - a) ≡ g ∷ passing (has s) k (256 - k)
next_left s a g k first l e =
    let m = first.from in
    passing_first (has s) a (256 - a) g (256 - (g + 1)) first (omega arith) ∙ ap (λ x. g ∷ passing (has s) x (256 - x)) (sym e)
