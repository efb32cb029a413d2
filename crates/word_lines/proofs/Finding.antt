-- What `position` and `find` come to, over bytes and over pieces.
use Rattle.std.proofs.Common.{◌≡◌, ℕ, suc, ◌≤◌, Bool, true, false, not, eqb, List, [], ◌∷◌, length, Some, None, Option, MatchOption, IfSome, filter, sym, refl, ap, ◌∙◌, subst, arith}
use Rattle.std.specs.Borrow.{Bor}
use Rattle.std.specs.Fn.{CalledAt}
use Rattle.std.specs.Iterator.{Yields, YieldsFirstRef}
use Rattle.std.specs.List.{prefix_len, FoldsTo}
use Rattle.std.proofs.lemmas.Bool.{ne_eqb}
use Rattle.std.proofs.lemmas.List.Sums.{prefix_len-le-length}
use denote.Param.Members.{Mut}
use Rattle.word_lines.specs.Pieces.{has_bytes}

pub prefix_within : (p : ℕ → Bool) (xs : List ℕ) → prefix_len p xs ≤ length xs
prefix_within p xs = prefix_len-le-length p xs

pub some_bytes : (xs : List ℕ) → has_bytes xs ≡ not (eqb (length xs) 0)
some_bytes [] = refl
some_bytes (x ∷ xs) = sym (ap not (ne_eqb (suc (length xs)) 0 (λ e. omega arith)))

-- `find` hands out the first item that passes, and leaves what comes after it
module _ {S F : Type 0} (rest : S → List (List ℕ)) (test : List ℕ → Bool) (g : Mut F (Bor (Bor (List ℕ)) × Unit {0}) Bool) (tests : (x : Bor (List ℕ)) (b : Bool) (p q : F) → CalledAt g p x b q → b ≡ test x.now) where
  abbrev pub Left : S → Option (Bor (List ℕ)) → S → Type 0
  Left s r u = MatchOption r ((filter test (rest s) ≡ []) × (filter test (rest u) ≡ [])) (λ x. filter test (rest s) ≡ x.now ∷ filter test (rest u))

  pub found : (xs : List (Bor (List ℕ))) (s t u : S) (r : Option (Bor (List ℕ))) (f f' : F) → Yields (YieldsFirstRef rest) s xs t → YieldsFirstRef rest t r u
      → FoldsTo (λ p x q. CalledAt g p x false q) f xs f' → IfSome r (λ x. (h : F) × CalledAt g f' x true h) → Left s r u
  found [] s t u None f f' same step folds i = let e = ap rest same in (ap (filter test) (e ∙ step.0), ap (filter test) step.1)
  found [] s t u (Some x) f f' same step folds (h, c) = ap (λ y. filter test (rest y)) same ∙ ap (filter test) step ∙ rw (sym (tests x true f' h c)) refl
  found (x ∷ xs) s t u r f f' (j, here, more) step (k, c, folds) i =
      let e : filter test (rest s) ≡ filter test (rest j) = ap (filter test) here ∙ rw (sym (tests x false f k c)) refl in
      subst (λ l. MatchOption r ((l ≡ []) × (filter test (rest u) ≡ [])) (λ y. l ≡ y.now ∷ filter test (rest u))) (sym e) (found xs j t u r k f' more step folds i)
