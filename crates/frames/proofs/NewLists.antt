-- A new list: the array falls from 4,095, so the list rises from its head on, and no flag is set.
use Rattle.std.proofs.Common.{◌≡◌, ℕ, zero, suc, ◌+◌, ◌-◌, ◌<◌, false, cond, ◌&&◌, eqb, ltb, leb, List, [], ◌∷◌, map, reverse, count_by, length, get_or, replicate, sym, refl, ap, ◌∙◌, ap₂, ⊎_elim, arith}
use lib.Dec.{leb-zero}
use Rattle.std.proofs.lemmas.List.{get_or-reverse, length-reverse}
use Rattle.std.proofs.lemmas.List.Sums.{sum_by-cons}
use Rattle.std.proofs.lemmas.List.Sorted.{IsPermutation-reverse, sum_by-IsPermutation}
use Rattle.std.proofs.lemmas.Bool.Decides.{nat_tests}
use Rattle.std.proofs.lemmas.Bool.{cases_lt, le-ltb, lt-leb, and_left, and_right, cond-false}
use Rattle.frames.specs.Lists.{rising, occurs, due}
use Rattle.frames.specs.declared.stock.Stock.{Stock}
use Rattle.frames.specs.Stock.{first_frame, in_stock}

-- no flag is set in a new list
no_flag : (n i : ℕ) → get_or (replicate n false) i false ≡ false
no_flag zero i = refl
no_flag (suc n) zero = refl
no_flag (suc n) (suc i) = no_flag n i

pub no_flags : (n : ℕ) → count_by (λ flag. flag) (replicate n false) ≡ 0
no_flags zero = refl
no_flags (suc n) = no_flags n

-- a list that rises by one
rises : (xs : List ℕ) (b n : ℕ) → length xs ≡ n → ((k : ℕ) → k < n → get_or xs k 0 ≡ b + k) → xs ≡ rising b n
unfolding rising
rises [] b zero l h = refl
rises [] b (suc n) l h = absurd (omega arith)
rises (x ∷ xs) b zero l h = absurd (omega arith)
rises (x ∷ xs) b (suc n) l h = ap₂ ◌∷◌ (h 0 (omega arith) ∙ omega arith) (rises xs (b + 1) n (omega arith) (λ k m. h (suc k) (omega arith) ∙ omega arith))

map_rising : (a b n : ℕ) → map (λ i. a + i) (rising b n) ≡ rising (a + b) n
unfolding rising
map_rising a b zero = refl
map_rising a b (suc n) = ap (λ xs. (a + b) ∷ xs) (map_rising a (b + 1) n ∙ ap (λ x. rising x n) (omega arith))

-- each number of a rising list is in it once
rising_occurs : (i b n : ℕ) → occurs i (rising b n) ≡ cond (leb b i && ltb i (b + n)) 1 0
unfolding rising
rising_occurs i b zero = ⊎_elim
    (λ l. sym (cond-false _ _ _ (and_left (leb b i) _ (lt-leb b i l))))
    (λ g. sym (cond-false _ _ _ (and_right (leb b i) _ (le-ltb i (b + 0) (omega arith)))))
    (cases_lt i b)
rising_occurs i b (suc n) =
    let h = rising_occurs i (b + 1) n in
    let s = sum_by-cons (λ y. cond {A = ℕ} (eqb i y) 1 0) b (rising (b + 1) n) in
    grind (arith, nat_tests)

-- a new list falls in its array from 4,095, so it rises from its head on
abbrev pub Falls : List ℕ → Type 0
Falls xs = (length xs ≡ 4096) × ((k : ℕ) → k < 4096 → get_or xs k 0 ≡ 4095 - k)

from_head : (xs : List ℕ) → Falls xs → reverse xs ≡ rising 0 4096
from_head xs (l, h) = rises (reverse xs) 0 4096 (length-reverse xs ∙ l)
    (λ k m. get_or-reverse xs k 0 (omega arith) ∙ ap (λ n. get_or xs (n - 1 - k) 0) l ∙ h (4096 - 1 - k) (omega arith) ∙ omega arith)

-- a new list has each place once, and none is out
pub new_once : (xs : List ℕ) → Falls xs → (i : ℕ) → occurs i xs ≡ due (replicate 4096 false) i
new_once xs f i =
    sym (sum_by-IsPermutation (λ y. cond {A = ℕ} (eqb i y) 1 0) xs (reverse xs) (IsPermutation-reverse xs))
    ∙ ap (occurs i) (from_head xs f) ∙ rising_occurs i 0 4096
    ∙ ap (λ x. cond {A = ℕ} (x && ltb i 4096) 1 0) (leb-zero i)
    ∙ sym (ap (λ x. cond {A = ℕ} (ltb i 4096) (cond x 0 1) 0) (no_flag 4096 i))

pub new_frames : (xs : List ℕ) (first : ℕ) → Falls xs → map (λ i. first + i) (reverse xs) ≡ rising first 4096
new_frames xs first f = ap (map (λ i. first + i)) (from_head xs f) ∙ map_rising first 0 4096 ∙ ap (λ x. rising x 4096) (omega arith)

pub new_in : (s : Stock) (f : ℕ) → (in_stock s f && get_or (replicate 4096 false) (f - first_frame s) false) ≡ false
new_in s f = and_right _ _ (no_flag 4096 (f - first_frame s))
