-- The first piece of a text.
use Rattle.std.proofs.Common.{◌≡◌, ℕ, suc, ◌<◌, Bool, true, false, not, List, [], ◌∷◌, length, take, drop, sym, refl, ap, ◌∙◌, add-one, one-add, arith}
use Rattle.std.specs.List.{prefix_len}
use Rattle.std.proofs.lemmas.List.{drop-drop}
use Rattle.word_lines.specs.declared.pieces.Separator.{Separator}
use Rattle.word_lines.specs.Pieces.{separates, begun, pieces}

-- how many bytes stand before the first separator
abbrev pub before : Separator → List ℕ → ℕ
before s bs = prefix_len (λ b. not (separates s b)) bs

ends_or_goes_on : (s : Separator) (b : ℕ) (bs : List ℕ) → begun b (pieces s bs) ≡ (b ∷ take (before s bs) bs) ∷ pieces s (drop (suc (before s bs)) bs)
    → pieces s (b ∷ bs) ≡ take (before s (b ∷ bs)) (b ∷ bs) ∷ pieces s (drop (suc (before s (b ∷ bs))) (b ∷ bs))
ends_or_goes_on s b bs on = at (separates s b) refl
  where
    at : (t : Bool) → separates s b ≡ t → pieces s (b ∷ bs) ≡ take (before s (b ∷ bs)) (b ∷ bs) ∷ pieces s (drop (suc (before s (b ∷ bs))) (b ∷ bs))
    at true e = rw e refl
    at false e = rw (e, one-add) on

first : (s : Separator) (b : ℕ) (bs : List ℕ) → pieces s (b ∷ bs) ≡ take (before s (b ∷ bs)) (b ∷ bs) ∷ pieces s (drop (suc (before s (b ∷ bs))) (b ∷ bs))
first s b [] = ends_or_goes_on s b [] refl
first s b (x ∷ bs) = ends_or_goes_on s b (x ∷ bs) (ap (begun b) (first s x bs))

-- the first piece, and what is left after it and its separator
pub next_piece : (s : Separator) (xs : List ℕ) → 0 < length xs → pieces s xs ≡ take (before s xs) xs ∷ pieces s (drop 1 (drop (before s xs) xs))
next_piece s [] h = absurd (omega arith)
next_piece s (b ∷ bs) h =
    let n = before s (b ∷ bs) in
    let d : drop (suc n) (b ∷ bs) ≡ drop 1 (drop n (b ∷ bs)) = ap (λ k. drop k (b ∷ bs)) (sym (add-one n)) ∙ sym (drop-drop 1 n (b ∷ bs)) in
    first s b bs ∙ ap (λ t. take n (b ∷ bs) ∷ pieces s t) d
