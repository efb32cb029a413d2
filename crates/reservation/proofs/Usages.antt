-- What a group is used for, and what that tells of it.
use Rattle.std.proofs.Common.{◌≡◌, ℕ, Bool, true, false, ◌&&◌, IfSome, Some, None, Option, Result, Ok, Err, sym, refl, ap, ◌∙◌, subst, MatchOption}
use Rattle.std.specs.Bool.{then_some}
use Rattle.std.specs.Result.{result_ok}
use Rattle.std.proofs.lemmas.Bool.{both_ways, eqb-true, eqb-false, eq-eqb, ne_eqb}
use Rattle.words.specs.Layout.{bucket_of}
use Rattle.reservation.specs.declared.group.Usage.{Usage}
use Rattle.reservation.specs.declared.group.Usage.TheVariants.{Open, Reserved, Broken}
use Rattle.reservation.specs.Groups.{open_use, reserved_use, broken_use, block_use, bucket_use, same_block}

-- two groups that are reserved for one block
pub both_for : (u v : Usage) (n : ℕ) → block_use n u ≡ true → block_use n v ≡ true → same_block u v ≡ true
both_for Open v n a b = absurd (both_ways false refl a)
both_for (Reserved x) v n a b = ap (λ k. block_use k v) (eqb-true x.number n a) ∙ b
both_for Broken v n a b = absurd (both_ways false refl a)

-- a group that is not in the block's bucket is not reserved for the block
pub not_listed : (u : Usage) (n : ℕ) → bucket_use (bucket_of n) u ≡ false → block_use n u ≡ false
not_listed Open n e = refl
not_listed (Reserved x) n e = ne_eqb x.number n (λ d. eqb-false _ _ e (ap bucket_of d))
not_listed Broken n e = refl

-- neither open, nor broken nor reserved with a frame in
pub none_in : (u : Usage) (b : Bool) → (broken_use u && b) ≡ false → open_use u ≡ false → (reserved_use u && b) ≡ false → b ≡ false
none_in Open b s o w = absurd (both_ways true o refl)
none_in (Reserved x) b s o w = w
none_in Broken b s o w = s

-- a group of the same block is reserved for the block
pub same_for : (u v : Usage) (n : ℕ) → block_use n u ≡ true → same_block u v ≡ true → block_use n v ≡ true
same_for Open v n a b = absurd (both_ways false refl a)
same_for (Reserved x) v n a b = ap (λ k. block_use k v) (sym (eqb-true x.number n a)) ∙ b
same_for Broken v n a b = absurd (both_ways false refl a)

pub same_sym : (u v : Usage) → same_block u v ≡ true → same_block v u ≡ true
same_sym Open v e = absurd (both_ways false refl e)
same_sym (Reserved x) Open e = absurd (both_ways false refl e)
same_sym (Reserved x) (Reserved y) e = eq-eqb x.number y.number (sym (eqb-true y.number x.number e))
same_sym (Reserved x) Broken e = absurd (both_ways false refl e)
same_sym Broken v e = absurd (both_ways false refl e)

pub broken_alone : (u v : Usage) → broken_use u ≡ true → same_block u v ≡ true → ⊥
broken_alone Open v a b = both_ways false refl a
broken_alone (Reserved x) v a b = both_ways false refl a
broken_alone Broken v a b = both_ways false refl b

pub open_alone : (u v : Usage) → open_use u ≡ true → same_block u v ≡ true → ⊥
open_alone Open v a b = both_ways false refl b
open_alone (Reserved x) v a b = both_ways false refl a
open_alone Broken v a b = both_ways false refl a

-- a group is used in one way
pub block_reserved : (u : Usage) (n : ℕ) → block_use n u ≡ true → (reserved_use u ≡ true) × (open_use u ≡ false)
block_reserved Open n a = absurd (both_ways false refl a)
block_reserved (Reserved x) n a = (refl, refl)
block_reserved Broken n a = absurd (both_ways false refl a)

pub broken_only : (u : Usage) → broken_use u ≡ true → (reserved_use u ≡ false) × (open_use u ≡ false)
broken_only Open a = absurd (both_ways false refl a)
broken_only (Reserved x) a = absurd (both_ways false refl a)
broken_only Broken a = (refl, refl)

pub open_only : (u : Usage) → open_use u ≡ true → reserved_use u ≡ false
open_only Open a = refl
open_only (Reserved x) a = absurd (both_ways false refl a)
open_only Broken a = absurd (both_ways false refl a)

pub cases_map : {X : Type 0} (o : Option X) (A A' : Type 0) (B B' : X → Type 0) → MatchOption o A B → (A → A') → ((x : X) → B x → B' x) → MatchOption o A' B'
cases_map None A A' B B' c f g = f c
cases_map (Some x) A A' B B' c f g = g x c

pub cases_found : {X : Type 0} (o : Option X) (A : Type 0) (B B' : X → Type 0) → MatchOption o A B → ((x : X) → B x → B' x) → IfSome o B'
cases_found None A B B' c g = tt
cases_found (Some x) A B B' c g = g x c

-- an answer after `ok_or` and `?`
pub at_ok : {X E : Type 0} (o : Option X) (r : Result X E) (x : X) (A : Type 0) (B : X → Type 0) → MatchOption o A B → o ≡ result_ok r → r ≡ Ok x → B x
at_ok o r x A B h e f = subst (λ p. MatchOption p A B) (e ∙ ap result_ok f) h

pub at_err : {X E : Type 0} (o : Option X) (r : Result X E) (x : E) (A : Type 0) (B : X → Type 0) → MatchOption o A B → o ≡ result_ok r → r ≡ Err x → A
at_err o r x A B h e f = subst (λ p. MatchOption p A B) (e ∙ ap result_ok f) h

-- an answer that is there where a test passes
pub by_test : {X : Type 0} (o : Option X) (b : Bool) (x : X) (A : Type 0) (B : X → Type 0) → o ≡ then_some b x → (b ≡ false → A) → (b ≡ true → B x) → MatchOption o A B
by_test o true x A B e f g = subst (λ p. MatchOption p A B) (sym e) (g refl)
by_test o false x A B e f g = subst (λ p. MatchOption p A B) (sym e) (f refl)
