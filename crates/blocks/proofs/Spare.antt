-- How often a row is in a list of rows.
use Rattle.std.proofs.Common.{◌≡◌, ℕ, suc, ◌+◌, ◌<◌, ◌≤◌, cond, eqb, List, [], ◌∷◌, ◌++◌, length, get_or, refl, ap, ◌∙◌, ⊎_elim, arith}
use Rattle.std.proofs.lemmas.List.Sums.{sum_by-cons}
use Rattle.std.proofs.lemmas.Bool.{cases_eq, eq-eqb, ne_eqb}
use Rattle.chains.specs.declared.node.RowNumber.{RowNumber}
use Rattle.chains.proofs.Counts.{one}
use Rattle.blocks.specs.Rows.{occurs}

-- one row more at the front
front : (i : ℕ) (x : RowNumber) (l : List RowNumber) → occurs i (x ∷ l) ≡ one (eqb x.number i) + occurs i l
front i x l = sum_by-cons (λ (y : RowNumber). cond {A = ℕ} (eqb y.number i) 1 0) x l

-- and at the end
pub at_end : (i : ℕ) (l : List RowNumber) (x : RowNumber) → occurs i (l ++ x ∷ []) ≡ occurs i l + one (eqb x.number i)
at_end i [] x = let e = front i x [] in omega arith
at_end i (y ∷ l) x =
    let a = front i y (l ++ x ∷ []) in
    let b = front i y l in
    let h = at_end i l x in
    omega arith

-- a list that rises by one from b
abbrev pub Rises : List RowNumber → RowNumber → ℕ → Type 0
Rises l d b = (k : ℕ) → k < length l → (get_or l k d).number ≡ b + k

before : (l : List RowNumber) (d : RowNumber) (b i : ℕ) → Rises l d b → i < b → occurs i l ≡ 0
before [] d b i r m = refl
before (x ∷ l) d b i r m =
    let e = r 0 (omega arith) in
    let f = front i x l in
    let z = ap one (ne_eqb x.number i (λ q. omega arith)) in
    let h = before l d (b + 1) i (λ k n. r (suc k) (omega arith) ∙ omega arith) (omega arith) in
    omega arith

pub once : (l : List RowNumber) (d : RowNumber) (b i : ℕ) → Rises l d b → b ≤ i → i < b + length l → occurs i l ≡ 1
once [] d b i r m n = absurd (omega arith)
once (x ∷ l) d b i r m n =
    let e = r 0 (omega arith) in
    let f = front i x l in
    let rest : Rises l d (b + 1) = λ k n. r (suc k) (omega arith) ∙ omega arith in
    ⊎_elim
    (λ q. let o = ap one (eq-eqb x.number i (omega arith)) in let h = before l d (b + 1) i rest (omega arith) in omega arith)
    (λ ne. let z = ap one (ne_eqb x.number i (λ q. ne (omega arith))) in let h = once l d (b + 1) i rest (omega arith) (omega arith) in omega arith)
    (cases_eq i b)
