-- A loop that changes one element after another.
use Rattle.std.proofs.Common.{◌≡◌, ℕ, ◌+◌, ◌<◌, ◌≤◌, List, length, get_or, set, sym, ◌∙◌, subst, ⊎_elim, length-set, arith}
use Rattle.std.proofs.lemmas.Bool.{cases_eq}
use Rattle.std.proofs.lemmas.List.{get_or-set_same, get_or-set_other, get_or_default}

-- the elements below i are changed as R says, and the others are as they were
pub record Upto {S : Type 0} (R : S → S → Type 0) (xs ys : List S) (i : ℕ) : Type 0 where
  pub long : length ys ≡ length xs
  pub below : (k : ℕ) (d : S) → k < i → R (get_or xs k d) (get_or ys k d)
  pub above : (k : ℕ) (d : S) → i ≤ k → get_or ys k d ≡ get_or xs k d

-- one more element, which is written or left
module _ {S : Type 0} (R : S → S → Type 0) (xs ys : List S) (i : ℕ) (o : S) (upto : Upto R xs ys i) (l : i < length ys) where
  before : (d : S) → get_or xs i d ≡ get_or ys i o
  before d = sym (upto.above i d (omega arith)) ∙ get_or_default ys i d o l

  pub written : (v : S) → R (get_or ys i o) v → Upto R xs (set ys i v) (i + 1)
  written v r = record {
    long = length-set ys i v ∙ upto.long;
    below = λ k d m. ⊎_elim
        (λ e. subst (λ j. R (get_or xs j d) (get_or (set ys i v) j d)) (sym e) (rw (before d, get_or-set_same ys i v d l) r))
        (λ ne. rw (get_or-set_other ys i k v d ne) (upto.below k d (omega arith)))
        (cases_eq k i);
    above = λ k d m. get_or-set_other ys i k v d (λ e. omega arith) ∙ upto.above k d (omega arith);
  }

  pub left : R (get_or ys i o) (get_or ys i o) → Upto R xs ys (i + 1)
  left r = record {
    long = upto.long;
    below = λ k d m. ⊎_elim
        (λ e. subst (λ j. R (get_or xs j d) (get_or ys j d)) (sym e) (rw (before d, get_or_default ys i d o l) r))
        (λ ne. upto.below k d (omega arith))
        (cases_eq k i);
    above = λ k d m. upto.above k d (omega arith);
  }
