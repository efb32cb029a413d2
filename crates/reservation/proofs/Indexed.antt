-- Sets in a row: what is in them after one is written.
use Rattle.std.proofs.Common.{◌≡◌, ℕ, zero, suc, ◌<◌, Bool, true, false, eqb, List, [], ◌∷◌, length, get_or, set, replicate, sym, refl, ap, ◌∙◌, ⊎_elim, arith}
use Rattle.std.proofs.lemmas.Bool.{cases_eq, eq-eqb, ne_eqb}
use Rattle.words.specs.Points.{at}
use Rattle.reservation.specs.declared.bit_set.BitSet.{BitSet}
use Rattle.reservation.specs.declared.group.Usage.{Usage}
use Rattle.reservation.specs.Groups.{bucket_use}
use Rattle.reservation.specs.Index.{nth_has, put_in}
use Rattle.reservation.specs.Sets.{has}
use Rattle.reservation.proofs.Ranks.{at_here, at_there}

pub nth_get : (ss : List (BitSet 4)) (i : ℕ) (d : BitSet 4) → i < length ss → nth_has ss i ≡ has (get_or ss i d)
nth_get [] i d l = absurd (omega arith)
nth_get (s ∷ ss) zero d l = refl
nth_get (s ∷ ss) (suc i) d l = nth_get ss i d (omega arith)

pub nth_none : (n : ℕ) (s : BitSet 4) → ((k : ℕ) → has s k ≡ false) → (h k : ℕ) → nth_has (replicate n s) h k ≡ false
nth_none zero s e h k = refl
nth_none (suc n) s e zero k = e k
nth_none (suc n) s e (suc h) k = nth_none n s e h k

nth_same : (ss : List (BitSet 4)) (i : ℕ) (s : BitSet 4) → i < length ss → nth_has (set ss i s) i ≡ has s
nth_same [] i s l = absurd (omega arith)
nth_same (x ∷ ss) zero s l = refl
nth_same (x ∷ ss) (suc i) s l = nth_same ss i s (omega arith)

nth_other : (ss : List (BitSet 4)) (i : ℕ) (s : BitSet 4) (h : ℕ) → (h ≡ i → ⊥) → nth_has (set ss i s) h ≡ nth_has ss h
nth_other [] i s h ne = refl
nth_other (x ∷ ss) zero s zero ne = absurd (ne refl)
nth_other (x ∷ ss) zero s (suc h) ne = refl
nth_other (x ∷ ss) (suc i) s zero ne = refl
nth_other (x ∷ ss) (suc i) s (suc h) ne = nth_other ss i s h (λ e. ne (ap suc e))

-- the set number i, with a number in or out
pub put_nth : (ss : List (BitSet 4)) (i g : ℕ) (on : Bool) (d t : BitSet 4) → i < length ss → has t ≡ at (has (get_or ss i d)) g on → (h k : ℕ) → nth_has (set ss i t) h k ≡ put_in (eqb i h) (nth_has ss h) g on k
put_nth ss i g on d t l f h k = ⊎_elim
    (λ q. ap (λ x. nth_has (set ss i t) x k) (sym q) ∙ ap (λ p. p k) (nth_same ss i t l ∙ f ∙ ap (λ p. at p g on) (sym (nth_get ss i d l)))
    ∙ ap (λ x. at (nth_has ss x) g on k) q ∙ sym (ap (λ b. put_in b (nth_has ss h) g on k) (eq-eqb i h q)))
    (λ q. ap (λ p. p k) (nth_other ss i t h (λ x. q (sym x))) ∙ sym (ap (λ b. put_in b (nth_has ss h) g on k) (ne_eqb i h q)))
    (cases_eq i h)

-- out of the bucket of the old block, into that of the new one
pub relisted : (x y z : ℕ → ℕ → Bool) (g : ℕ) (old new : Usage) → ((h : ℕ) → x h g ≡ bucket_use h old) →
    ((h k : ℕ) → y h k ≡ put_in (bucket_use h old) (x h) g false k) → ((h k : ℕ) → z h k ≡ put_in (bucket_use h new) (y h) g true k) →
    (h : ℕ) → z h g ≡ bucket_use h new
relisted x y z g old new listed out into h = into h g ∙ last (bucket_use h new) (y h) (out h g ∙ first (bucket_use h old) (x h) (listed h))
  where
    first : (b : Bool) (f : ℕ → Bool) → f g ≡ b → put_in b f g false g ≡ false
    first true f e = at_here f g false g refl
    first false f e = e

    last : (b : Bool) (f : ℕ → Bool) → f g ≡ false → put_in b f g true g ≡ b
    last true f e = at_here f g true g refl
    last false f e = e

pub put_other : (b : Bool) (f : ℕ → Bool) (g k : ℕ) (on : Bool) → (k ≡ g → ⊥) → put_in b f g on k ≡ f k
put_other true f g k on ne = at_there f g on k ne
put_other false f g k on ne = refl
