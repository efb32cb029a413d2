-- A list of fills: found by page, one more, one less, counted.
use Rattle.std.proofs.Common.{◌≡◌, ℕ, zero, suc, ◌^◌, ◌<◌, true, false, not, eqb, List, [], ◌∷◌, ◌++◌, length, get_or, Some, None, Option, MatchOption, is_some, sym, refl, ap, ◌∙◌, subst, ⊎_elim, arith}
use mathlib.Core.Path.{fun_ext}
use Rattle.std.proofs.lemmas.Bool.{cases_eq, cases_Bool, both_ways, and_parts, and_from, eq-eqb, ne_eqb, cond-true, cond-false}
use Rattle.std.specs.List.{remove}
use Rattle.words.specs.Points.{at}
use Rattle.chains.specs.Counting.{how_many}
use Rattle.chains.proofs.Counts.{one, many_same, many_at, many_none}
use Rattle.chains.proofs.Linking.{at_here, at_there}
use Rattle.fills.specs.declared.underway.Underway.{Underway}
use Rattle.fills.specs.declared.underway.Waiting.{Waiting}
use Rattle.fills.specs.Lists.{first_fill, once}
use Rattle.fills.specs.Fills.{IsWaiting, WaitingPages}

-- the first fill, or the others
here : (w : Waiting) (ws : List Waiting) (p : ℕ) → w.page.number ≡ p → first_fill (w ∷ ws) p ≡ Some w.underway
here w ws p e = cond-true (eqb w.page.number p) _ _ (eq-eqb w.page.number p e)

past : (w : Waiting) (ws : List Waiting) (p : ℕ) → (w.page.number ≡ p → ⊥) → first_fill (w ∷ ws) p ≡ first_fill ws p
past w ws p ne = cond-false (eqb w.page.number p) _ _ (ne_eqb w.page.number p ne)

is_none : {X : Type 0} (o : Option X) → not (is_some o) ≡ true → o ≡ None
is_none None e = refl
is_none (Some x) e = absurd (both_ways false refl e)

none_is : {X : Type 0} (o : Option X) → o ≡ None → not (is_some o) ≡ true
none_is o e = ap (λ x. not (is_some x)) e

-- no fill is of the page
pub nowhere : (ws : List Waiting) (p : ℕ) → ((k : ℕ) → k < length ws → (d : Waiting) → (get_or ws k d).page.number ≡ p → ⊥) → first_fill ws p ≡ None
nowhere [] p h = refl
nowhere (w ∷ ws) p h = past w ws p (h 0 (omega arith) w) ∙ nowhere ws p (λ k l d. h (suc k) (omega arith) d)

-- the fill at a place is the one of its page
pub at_place : (ws : List Waiting) (i : ℕ) (d : Waiting) (p : ℕ) → once ws ≡ true → i < length ws → (get_or ws i d).page.number ≡ p → first_fill ws p ≡ Some (get_or ws i d).underway
at_place [] i d p o l e = absurd (omega arith)
at_place (w ∷ ws) zero d p o l e = here w ws p e
at_place (w ∷ ws) (suc i) d p o l e =
    let (new, rest) = and_parts _ _ o in
    let r = at_place ws i d p rest (omega arith) e in
    past w ws p (λ q. both_ways _ (ap is_some (sym (ap (first_fill ws) q) ∙ is_none _ new)) (ap is_some r)) ∙ r

-- one more at the end
pub fill_added : (ws : List Waiting) (w : Waiting) → first_fill ws w.page.number ≡ None → first_fill (ws ++ w ∷ []) ≡ at (first_fill ws) w.page.number (Some w.underway)
fill_added ws w n = fun_ext (each ws n)
  where
    each : (ws : List Waiting) → first_fill ws w.page.number ≡ None → (p : ℕ) → first_fill (ws ++ w ∷ []) p ≡ at (first_fill ws) w.page.number (Some w.underway) p
    each [] n p = ⊎_elim
        (λ e. here w [] p (sym e) ∙ sym (at_here (first_fill []) w.page.number (Some w.underway) p e))
        (λ ne. past w [] p (λ e. ne (sym e)) ∙ sym (at_there (first_fill []) w.page.number (Some w.underway) p ne))
        (cases_eq p w.page.number)
    each (v ∷ vs) n p =
        let apart : v.page.number ≡ w.page.number → ⊥ = λ e. both_ways _ (ap is_some (n)) (ap is_some (here v vs w.page.number e)) in
        let rest = each vs (sym (past v vs w.page.number apart) ∙ n) p in
        ⊎_elim
        (λ e. past v (vs ++ w ∷ []) p (λ q. apart (q ∙ e)) ∙ rest ∙ at_here (first_fill vs) w.page.number (Some w.underway) p e ∙ sym (at_here (first_fill (v ∷ vs)) w.page.number (Some w.underway) p e))
        (λ ne. ⊎_elim
        (λ q. here v (vs ++ w ∷ []) p q ∙ sym (at_there (first_fill (v ∷ vs)) w.page.number (Some w.underway) p ne ∙ here v vs p q))
        (λ nq. past v (vs ++ w ∷ []) p nq ∙ rest ∙ at_there (first_fill vs) w.page.number (Some w.underway) p ne ∙ sym (at_there (first_fill (v ∷ vs)) w.page.number (Some w.underway) p ne ∙ past v vs p nq))
        (cases_eq v.page.number p))
        (cases_eq p w.page.number)

pub once_added : (ws : List Waiting) (w : Waiting) → once ws ≡ true → first_fill ws w.page.number ≡ None → once (ws ++ w ∷ []) ≡ true
once_added [] w o n = refl
once_added (v ∷ vs) w o n =
    let (new, rest) = and_parts _ _ o in
    let apart : v.page.number ≡ w.page.number → ⊥ = λ e. both_ways _ (ap is_some n) (ap is_some (here v vs w.page.number e)) in
    let less : first_fill vs w.page.number ≡ None = sym (past v vs w.page.number apart) ∙ n in
    and_from _ _ (none_is _ (ap (λ f. f v.page.number) (fill_added vs w less) ∙ at_there (first_fill vs) w.page.number (Some w.underway) v.page.number apart ∙ is_none _ new)) (once_added vs w rest less)

-- one less
pub fill_removed : (ws : List Waiting) (i : ℕ) (d : Waiting) (p : ℕ) → once ws ≡ true → i < length ws → (get_or ws i d).page.number ≡ p → first_fill (remove ws i) ≡ at (first_fill ws) p None
fill_removed ws i d p o l e = fun_ext (each ws i o l e)
  where
    each : (ws : List Waiting) (i : ℕ) → once ws ≡ true → i < length ws → (get_or ws i d).page.number ≡ p → (q : ℕ) → first_fill (remove ws i) q ≡ at (first_fill ws) p None q
    each [] i o l e q = absurd (omega arith)
    each (w ∷ ws) zero o l e q =
        let (new, rest) = and_parts _ _ o in
        ⊎_elim
        (λ s. ap (first_fill ws) (s ∙ sym e) ∙ is_none _ new ∙ sym (at_here (first_fill (w ∷ ws)) p None q s))
        (λ ne. sym (at_there (first_fill (w ∷ ws)) p None q ne ∙ past w ws q (λ r. ne (sym r ∙ e))))
        (cases_eq q p)
    each (w ∷ ws) (suc i) o l e q =
        let (new, rest) = and_parts _ _ o in
        let r = each ws i rest (omega arith) e q in
        let found = at_place ws i d p rest (omega arith) e in
        let apart : w.page.number ≡ p → ⊥ = λ s. both_ways _ (ap is_some (sym (ap (first_fill ws) s) ∙ is_none _ new)) (ap is_some found) in
        ⊎_elim
        (λ s. past w (remove ws i) q (λ t. apart (t ∙ s)) ∙ r ∙ at_here (first_fill ws) p None q s ∙ sym (at_here (first_fill (w ∷ ws)) p None q s))
        (λ ne. ⊎_elim
        (λ t. here w (remove ws i) q t ∙ sym (at_there (first_fill (w ∷ ws)) p None q ne ∙ here w ws q t))
        (λ nt. past w (remove ws i) q nt ∙ r ∙ at_there (first_fill ws) p None q ne ∙ sym (at_there (first_fill (w ∷ ws)) p None q ne ∙ past w ws q nt))
        (cases_eq w.page.number q))
        (cases_eq q p)

pub once_removed : (ws : List Waiting) (i : ℕ) → once ws ≡ true → i < length ws → once (remove ws i) ≡ true
once_removed [] i o l = absurd (omega arith)
once_removed (w ∷ ws) zero o l = (and_parts _ _ o).1
once_removed (w ∷ ws) (suc i) o l =
    let (new, rest) = and_parts _ _ o in
    let f = fill_removed ws i w (get_or ws i w).page.number rest (omega arith) refl in
    and_from _ _ (none_is _ (ap (λ g. g w.page.number) f ∙ ⊎_elim
    (λ e. at_here (first_fill ws) (get_or ws i w).page.number None w.page.number e)
    (λ ne. at_there (first_fill ws) (get_or ws i w).page.number None w.page.number ne ∙ is_none _ new)
    (cases_eq w.page.number (get_or ws i w).page.number)))
    (once_removed ws i rest (omega arith))

-- as many pages wait as there are fills
many_waiting : (ws : List Waiting) → once ws ≡ true → how_many (λ p. is_some (first_fill ws p)) (2 ^ 52) ≡ length ws
many_waiting [] o = many_none (λ p. is_some (first_fill [] p)) (2 ^ 52) (λ p l. refl)
many_waiting (w ∷ ws) o =
    let (new, rest) = and_parts _ _ o in
    let r = many_waiting ws rest in
    let m = many_at (λ p. is_some (first_fill ws p)) w.page.number true (2 ^ 52) w.page.within in
    let z = ap one (ap is_some (is_none (first_fill ws w.page.number) new)) in
    let e = ap (λ f. how_many f (2 ^ 52)) (fun_ext more) in
    omega arith
  where
    more : (p : ℕ) → is_some (first_fill (w ∷ ws) p) ≡ at (λ q. is_some (first_fill ws q)) w.page.number true p
    more p = ⊎_elim
        (λ e. ap is_some (here w ws p (sym e)) ∙ sym (at_here (λ q. is_some (first_fill ws q)) w.page.number true p e))
        (λ ne. ap is_some (past w ws p (λ e. ne (sym e))) ∙ sym (at_there (λ q. is_some (first_fill ws q)) w.page.number true p ne))
        (cases_eq p w.page.number)

pub waiting_pages : (ws : List Waiting) (n : ℕ) → once ws ≡ true → n ≡ length ws → WaitingPages (first_fill ws) n
waiting_pages ws n o e = record {
  test = λ p. is_some (first_fill ws p);
  tells = λ p l. (found (first_fill ws p), λ (f, q). ap is_some q);
  many = e ∙ sym (many_waiting ws o);
}
  where
    found : (x : Option Underway) → is_some x ≡ true → (f : Underway) × (x ≡ Some f)
    found (Some f) t = (f, refl)
    found None t = absurd (both_ways false refl t)

-- a search for the place of a page's fill
abbrev pub Placed : List Waiting → ℕ → Option ℕ → Type 0
Placed ws p r = MatchOption r (first_fill ws p ≡ None) (λ i. (i < length ws) × ((d : Waiting) → (get_or ws i d).page.number ≡ p))

pub placed_some : (ws : List Waiting) (p : ℕ) (r : Option ℕ) → once ws ≡ true → Placed ws p r → is_some r ≡ true → IsWaiting (first_fill ws) p
placed_some (w ∷ ws) p (Some i) o (l, h) t = ((get_or (w ∷ ws) i w).underway, at_place (w ∷ ws) i w p o l (h w))
placed_some [] p (Some i) o (l, h) t = absurd (omega arith)
placed_some ws p None o h t = absurd (both_ways false refl t)

pub placed_none : (ws : List Waiting) (p : ℕ) (r : Option ℕ) → Placed ws p r → is_some r ≡ false → first_fill ws p ≡ None
placed_none ws p None h f = h
placed_none ws p (Some i) h f = absurd (both_ways _ f refl)

pub not_full : (ws : List Waiting) → once ws ≡ true → (length ws ≡ 32 → ⊥) → WaitingPages (first_fill ws) 32 → ⊥
not_full ws o n w =
    let own = waiting_pages ws (length ws) o refl in
    n (own.many ∙ many_same own.test w.test (2 ^ 52) (λ i l. ⊎_elim
    (λ t. t ∙ sym ((w.tells i l).1 ((own.tells i l).0 t)))
    (λ f. ⊎_elim (λ t. absurd (both_ways _ f ((own.tells i l).1 ((w.tells i l).0 t)))) (λ g. f ∙ sym g) (cases_Bool (w.test i)))
    (cases_Bool (own.test i))) ∙ sym w.many)

pub found_at : (ws : List Waiting) (p : ℕ) (r : Option ℕ) (i : ℕ) (d : Waiting) → once ws ≡ true → Placed ws p r → r ≡ Some i → (i < length ws) × ((get_or ws i d).page.number ≡ p) × (first_fill ws p ≡ Some (get_or ws i d).underway)
found_at ws p r i d o h e = let (l, q) = subst (Placed ws p) e h in (l, q d, at_place ws i d p o l (q d))

pub not_waiting : (o : Option Underway) → (((f : Underway) × (o ≡ Some f)) → ⊥) → o ≡ None
not_waiting None h = refl
not_waiting (Some f) h = absurd (h (f, refl))
