-- Bits of numbers: one set, some cleared.
use Rattle.std.proofs.Common.{◌≡◌, ℕ, zero, suc, ◌+◌, ◌-◌, ◌*◌, ◌/◌, ◌%◌, ◌^◌, ◌<◌, ◌≤◌, true, false, Bool, MatchBool, not, ◌&&◌, ◌||◌, eqb, nat_eq, sym, refl, ap, ◌∙◌, ap₂, ⊎_elim, mul_comm, one-mul, pow-suc, zero-add, arith}
use native.Mathlib.Nat.{add-mul-div_right, div-eq_of_lt, zero-div}
use lib.Bits.{bit_and, bit_or, and_shr, and_mod}
use Rattle.std.proofs.lemmas.Bool.{cases_order, cases_lt, cases_eq, eqb-true, eqb-false, ne_eqb, eq-eqb, both_ways, and_parts, and_from}
use Rattle.std.proofs.lemmas.Nat.{pow_pos, pow-add, pow_below, shr-shr, and_le_l, or_shr, or_mod}
use Rattle.words.specs.Layout.{bit, Meet}

at_o : (m o : ℕ) → (m + 2 ^ o) / 2 ^ o ≡ m / 2 ^ o + 1
at_o m o = let e : (m + 1 * 2 ^ o) / 2 ^ o ≡ m / 2 ^ o + 1 = add-mul-div_right m 1 (pow_pos o) in rw one-mul at e

even : (m o : ℕ) → bit m o ≡ false → m / 2 ^ o % 2 ≡ 0
even m o h = let n = eqb-false (m / 2 ^ o % 2) 1 h in omega arith

pub bit_added : (m o : ℕ) → bit m o ≡ false → bit (m + 2 ^ o) o ≡ true
bit_added m o h = eq-eqb _ 1 (let e = at_o m o in let v = even m o h in omega arith)

-- above the bit
above_kept : (m o j : ℕ) → bit m o ≡ false → (m + 2 ^ o) / 2 ^ (o + (1 + j)) ≡ m / 2 ^ (o + (1 + j))
above_kept m o j h =
    let e = at_o m o in
    let v = even m o h in
    let half : (m / 2 ^ o + 1) / 2 ^ 1 ≡ m / 2 ^ o / 2 ^ 1 = omega arith in
    sym (shr-shr (m + 2 ^ o) o (1 + j)) ∙ ap (λ (x : ℕ). x / 2 ^ (1 + j)) e ∙ sym (shr-shr (m / 2 ^ o + 1) 1 j)
    ∙ ap (λ (x : ℕ). x / 2 ^ j) half ∙ shr-shr (m / 2 ^ o) 1 j ∙ shr-shr m o (1 + j)

below_kept : (m k j : ℕ) → (m + 2 ^ (k + (1 + j))) / 2 ^ k % 2 ≡ m / 2 ^ k % 2
below_kept m k j =
    let p : 2 ^ (k + (1 + j)) ≡ 2 ^ (1 + j) * 2 ^ k = omega (arith, pow-add 2 k (1 + j), mul_comm (2 ^ k) (2 ^ (1 + j))) in
    let q : 2 ^ (1 + j) ≡ 2 * 2 ^ j = pow-add 2 1 j in
    let e = add-mul-div_right m (2 ^ (1 + j)) (pow_pos k) in
    rw p (omega arith)

pub bit_kept : (m o k : ℕ) → bit m o ≡ false → (k ≡ o → ⊥) → bit (m + 2 ^ o) k ≡ bit m k
bit_kept m o k h ne =
    ⊎_elim
    (λ e. absurd (ne e))
    (⊎_elim
    (λ lt. let e : o ≡ k + (1 + (o - k - 1)) = omega arith in
    let b = below_kept m k (o - k - 1) in
    ap (λ (x : ℕ). eqb x 1) (rw (← e) at b))
    (λ lt. let e : k ≡ o + (1 + (k - o - 1)) = omega arith in
    let b = above_kept m o (k - o - 1) h in
    ap (λ (x : ℕ). eqb (x % 2) 1) (rw (← e) at b)))
    (cases_order k o)

pub bit_le : (m o : ℕ) → bit m o ≡ true → 2 ^ o ≤ m
bit_le m o h =
    ⊎_elim
    (λ lt. let z = div-eq_of_lt lt in
    let t = eqb-true (m / 2 ^ o % 2) 1 h in
    absurd (omega arith))
    (λ le. le)
    (cases_lt m (2 ^ o))

pub no_bit : (k : ℕ) → bit 0 k ≡ false
no_bit k = ne_eqb _ 1 (λ h. omega (arith, zero-div (2 ^ k)))

-- a power of two has one bit
pub one_bit : (o k : ℕ) → bit (2 ^ o) k ≡ eqb k o
one_bit o k =
    let z : 0 + 2 ^ o ≡ 2 ^ o = zero-add (2 ^ o) in
    ⊎_elim
    (λ e. ap₂ bit (sym z) e ∙ bit_added 0 o (no_bit o) ∙ sym (eq-eqb k o e))
    (λ ne. ap (λ x. bit x k) (sym z) ∙ bit_kept 0 o k (no_bit o) ne ∙ no_bit k ∙ sym (ne_eqb k o ne))
    (cases_eq k o)

-- a number below a power has no bit from there on
pub high_bit : (n k m : ℕ) → m < 2 ^ n → n ≤ k → bit m k ≡ false
high_bit n k m h l =
    ne_eqb _ 1 (λ e. let z : m / 2 ^ k ≡ 0 = div-eq_of_lt (wide k l) in omega arith)
  where
    wide : (k : ℕ) → n ≤ k → m < 2 ^ k
    wide k l = ⊎_elim (λ e. rw e h) (λ ne. let p = pow_below n k (omega arith) in omega arith) (cases_eq k n)

-- the bits of a complement
pub complement_bit : (n m k : ℕ) → m < 2 ^ n → k < n → (2 ^ n - 1 - m) / 2 ^ k % 2 ≡ 1 - m / 2 ^ k % 2
complement_bit zero m k h l = absurd (omega arith)
complement_bit (suc n) m zero h l = let p = pow-suc 2 n in omega arith
complement_bit (suc n) m (suc k) h l =
    let p = pow-suc 2 n in
    let half : (2 ^ suc n - 1 - m) / 2 ^ 1 ≡ 2 ^ n - 1 - m / 2 ^ 1 = omega arith in
    let i = complement_bit n (m / 2 ^ 1) k (omega arith) (omega arith) in
    let split : (x : ℕ) → x / 2 ^ suc k ≡ x / 2 ^ 1 / 2 ^ k = λ x. ap (λ j. x / 2 ^ j) (omega arith) ∙ sym (shr-shr x 1 k) in
    let a = split (2 ^ suc n - 1 - m) ∙ ap (λ x. x / 2 ^ k) half in
    let b = split m in
    ap (λ x. x % 2) a ∙ i ∙ ap (λ x. 1 - x % 2) (sym b)

-- n with the bits of m cleared, both below 2 ^ w
pub cleared_bit : (w n m k : ℕ) → n < 2 ^ w → m < 2 ^ w → bit (bit_and n (2 ^ w - 1 - m)) k ≡ (bit n k && not (bit m k))
cleared_bit w n m k f g = ⊎_elim low high (cases_lt k w)
  where
    both : (x y : ℕ) → x < 2 → y < 2 → eqb (bit_and x (1 - y)) 1 ≡ (eqb x 1 && not (eqb y 1))
    both zero zero p q = refl
    both zero (suc zero) p q = refl
    both (suc zero) zero p q = refl
    both (suc zero) (suc zero) p q = refl
    both (suc (suc x)) y p q = absurd (omega arith)
    both zero (suc (suc y)) p q = absurd (omega arith)
    both (suc zero) (suc (suc y)) p q = absurd (omega arith)

    low : k < w → bit (bit_and n (2 ^ w - 1 - m)) k ≡ (bit n k && not (bit m k))
    low l =
        ap (λ x. eqb x 1) (ap (λ x. x % 2) (and_shr n (2 ^ w - 1 - m) k) ∙ and_mod (n / 2 ^ k) ((2 ^ w - 1 - m) / 2 ^ k) 1 ∙ ap (bit_and (n / 2 ^ k % 2)) (complement_bit w m k g l))
        ∙ both (n / 2 ^ k % 2) (m / 2 ^ k % 2) (omega arith) (omega arith)

    high : w ≤ k → bit (bit_and n (2 ^ w - 1 - m)) k ≡ (bit n k && not (bit m k))
    high l =
        let a = and_le_l n (2 ^ w - 1 - m) in
        high_bit w k (bit_and n (2 ^ w - 1 - m)) (omega arith) l ∙ sym (ap (λ x. x && not (bit m k)) (high_bit w k n f l))

-- n with the bits of m set
pub joined_bit : (n m k : ℕ) → bit (bit_or n m) k ≡ (bit n k || bit m k)
joined_bit n m k =
    ap (λ x. eqb x 1) (ap (λ x. x % 2) (or_shr n m k) ∙ or_mod (n / 2 ^ k) (m / 2 ^ k) 1)
    ∙ both (n / 2 ^ k % 2) (m / 2 ^ k % 2) (omega arith) (omega arith)
  where
    both : (x y : ℕ) → x < 2 → y < 2 → eqb (bit_or x y) 1 ≡ (eqb x 1 || eqb y 1)
    both zero zero p q = refl
    both zero (suc zero) p q = refl
    both (suc zero) zero p q = refl
    both (suc zero) (suc zero) p q = refl
    both (suc (suc x)) y p q = absurd (omega arith)
    both zero (suc (suc y)) p q = absurd (omega arith)
    both (suc zero) (suc (suc y)) p q = absurd (omega arith)

-- the bits that both n and m have
pub common_bit : (n m k : ℕ) → bit (bit_and n m) k ≡ (bit n k && bit m k)
common_bit n m k =
    ap (λ x. eqb x 1) (ap (λ x. x % 2) (and_shr n m k) ∙ and_mod (n / 2 ^ k) (m / 2 ^ k) 1)
    ∙ both (n / 2 ^ k % 2) (m / 2 ^ k % 2) (omega arith) (omega arith)
  where
    both : (x y : ℕ) → x < 2 → y < 2 → eqb (bit_and x y) 1 ≡ (eqb x 1 && eqb y 1)
    both zero zero p q = refl
    both zero (suc zero) p q = refl
    both (suc zero) zero p q = refl
    both (suc zero) (suc zero) p q = refl
    both (suc (suc x)) y p q = absurd (omega arith)
    both zero (suc (suc y)) p q = absurd (omega arith)
    both (suc zero) (suc (suc y)) p q = absurd (omega arith)

-- a number below a power that is not zero has a bit
pub some_bit : (w n : ℕ) → n < 2 ^ w → 0 < n → (k : ℕ) × (bit n k ≡ true)
some_bit zero n h p = absurd (omega arith)
some_bit (suc w) n h p = ⊎_elim (λ e. (0, eq-eqb _ 1 (omega arith))) (λ ne. next (some_bit w (n / 2) (let q = pow-suc 2 w in omega arith) (omega arith))) (cases_eq (n % 2) 1)
  where
    next : ((k : ℕ) × (bit (n / 2) k ≡ true)) → (k : ℕ) × (bit n k ≡ true)
    next (k, e) = (1 + k, ap (λ x. eqb (x % 2) 1) (sym (shr-shr n 1 k)) ∙ e)

pub meeting : (w n m : ℕ) → n < 2 ^ w → MatchBool (not (nat_eq (bit_and n m) 0)) (Meet n m) (Meet n m → ⊥)
meeting w n m h = each (nat_eq (bit_and n m) 0) refl
  where
    found : ((k : ℕ) × (bit (bit_and n m) k ≡ true)) → Meet n m
    found (k, e) = let (i, j) = and_parts (bit n k) (bit m k) (sym (common_bit n m k) ∙ e) in (k, i, j)

    none : bit_and n m ≡ 0 → Meet n m → ⊥
    none z (k, i, j) = both_ways _ (ap (λ x. bit x k) z ∙ no_bit k) (common_bit n m k ∙ and_from _ _ i j)

    each : (b : Bool) → nat_eq (bit_and n m) 0 ≡ b → MatchBool (not b) (Meet n m) (Meet n m → ⊥)
    each true e = none (eqb-true (bit_and n m) 0 e)
    each false e = let a = and_le_l n m in found (some_bit w (bit_and n m) (omega arith) (let q = eqb-false (bit_and n m) 0 e in omega arith))
