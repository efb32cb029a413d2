-- Lines that differ have texts that differ.
use Rattle.std.proofs.Common.{◌≡◌, ℕ, ◌^◌, ◌<◌, List, [], ◌∷◌, ◌++◌, length, get_or, append-nil, append_assoc, decimal, codes, refl, sym, ap, ap₂, ◌∙◌, arith}
use Rattle.std.proofs.lemmas.List.{append_cancel_right}
use Rattle.std.proofs.lemmas.Fmt.{decimal_is_IsNumeral, decimal_injective}
use Rattle.std.specs.Str.Parse.{AllDigits}
use Rattle.trace_format.specs.declared.record.Kind.{Kind}
use Rattle.trace_format.specs.declared.record.Kind.TheVariants as kind
use Rattle.trace_format.specs.declared.fault.Trouble.{Trouble}
use Rattle.trace_format.specs.declared.fault.Trouble.TheVariants.{Cut, UnknownTag, WrongLength}
use Rattle.trace_format.specs.declared.line.Mark.{Mark}
use Rattle.trace_format.specs.declared.line.Mark.TheVariants.{Hit, Missed}
use Rattle.trace_format.specs.declared.line.Line.{Line}
use Rattle.trace_format.specs.declared.line.Line.TheVariants.{Populated, Released, Protected, Touched, Tried, Counted, Refused, Faulted}
use Rattle.trace_format.specs.Faults.{trouble_number}
use Rattle.trace_format.specs.Lines.{letter_of, mark_letter, words_of, FiguresFit}
use Rattle.trace_format.specs.Laws.{OneLine}

letter_apart : (k j : Kind) → letter_of k ≡ letter_of j → k ≡ j
letter_apart kind.Populate kind.Populate e = refl
letter_apart kind.Release kind.Release e = refl
letter_apart kind.Protect kind.Protect e = refl
letter_apart kind.Touch kind.Touch e = refl
letter_apart kind.Try kind.Try e = refl
letter_apart kind.Census kind.Census e = refl
letter_apart k j e = absurd (omega (arith, e))

mark_apart : (a b : Mark) → mark_letter a ≡ mark_letter b → a ≡ b
mark_apart Hit Hit e = refl
mark_apart Missed Missed e = refl
mark_apart a b e = absurd (omega (arith, e))

trouble_apart : (t u : Trouble) → trouble_number t ≡ trouble_number u → t ≡ u
trouble_apart Cut Cut e = refl
trouble_apart UnknownTag UnknownTag e = refl
trouble_apart WrongLength WrongLength e = refl
trouble_apart t u e = absurd (omega (arith, e))

-- digits end where a space stands
same_digits : (a b x y : List ℕ) → AllDigits 10 a → AllDigits 10 b → a ++ 32 ∷ x ≡ b ++ 32 ∷ y → (a ≡ b) × (x ≡ y)
same_digits [] [] x y f g e = (refl, cc)
same_digits [] (d ∷ b) x y f g e = let space : 32 ≡ d = cc in absurd (grind (arith, g.0, space))
same_digits (c ∷ a) [] x y f g e = let space : c ≡ 32 = cc in absurd (grind (arith, f.0, space))
same_digits (c ∷ a) (d ∷ b) x y f g e =
    let first : c ≡ d = cc in
    let tails : a ++ 32 ∷ x ≡ b ++ 32 ∷ y = cc in
    let (others, behind) = same_digits a b x y f.1 g.1 tails in
    (ap₂ ◌∷◌ first others, behind)

digits_of : (n : ℕ) → n < 2 ^ 64 → AllDigits 10 (decimal n)
digits_of n h = (decimal_is_IsNumeral n h).0.1

-- a figure with a space behind it
same_figure : (m n : ℕ) (x y : List ℕ) → m < 2 ^ 64 → n < 2 ^ 64 → decimal m ++ 32 ∷ x ≡ decimal n ++ 32 ∷ y → (m ≡ n) × (x ≡ y)
same_figure m n x y f g e =
    let (figure, behind) = same_digits (decimal m) (decimal n) x y (digits_of m f) (digits_of n g) e in
    (decimal_injective m n f g figure, behind)

-- a figure begins with a digit, and so with no exclamation mark
no_mark : (digits x y : List ℕ) → AllDigits 10 digits → 0 < length digits → digits ++ x ≡ 33 ∷ y → ⊥
no_mark [] x y f l e = absurd (omega arith)
no_mark (c ∷ cs) x y f l e = let mark : c ≡ 33 = cc in grind (arith, f.0, mark)

no_mark_first : (n : ℕ) (x y : List ℕ) → n < 2 ^ 64 → decimal n ++ x ≡ 33 ∷ y → ⊥
no_mark_first n x y h e = let numeral = (decimal_is_IsNumeral n h).0 in no_mark (decimal n) x y numeral.1 numeral.0 e

no_mark_alone : (n : ℕ) (y : List ℕ) → n < 2 ^ 64 → decimal n ≡ 33 ∷ y → ⊥
no_mark_alone n y h e = no_mark_first n [] y h (append-nil (decimal n) ∙ e)

trouble_small : (t : Trouble) → trouble_number t < 2 ^ 64
trouble_small Cut = omega arith
trouble_small UnknownTag = omega arith
trouble_small WrongLength = omega arith

abbrev IsRefused : Line → Type 0
IsRefused (Refused kind number) = Unit {0}
IsRefused line = ⊥

-- an exclamation mark behind the letter and the space shows a refusal
marked : (l : Line) (c : ℕ) (y : List ℕ) → FiguresFit l → words_of l ≡ c ∷ 32 ∷ 33 ∷ y → IsRefused l
marked (Populated a) c y f e = no_mark_alone a y (omega arith) cc
marked (Released a) c y f e = no_mark_alone a y (omega arith) cc
marked (Protected a) c y f e = no_mark_alone a y (omega arith) cc
marked (Touched a k) c y f e = no_mark_first a (32 ∷ mark_letter k ∷ []) y f cc
marked (Tried a) c y f e = no_mark_alone a y (omega arith) cc
marked (Counted n r p i) c y f e =
    let joined = simp append_assoc at e in
    no_mark_first n (32 ∷ (decimal r ++ 32 ∷ (decimal p ++ 32 ∷ decimal i))) y (omega arith) cc
marked (Refused k n) c y f e = tt
marked (Faulted t n) c y f e = no_mark_first (trouble_number t) (32 ∷ decimal n) y (trouble_small t) cc

same_alone : (c a b : ℕ) → a < 2 ^ 64 → b < 2 ^ 64 → c ∷ 32 ∷ decimal a ≡ c ∷ 32 ∷ decimal b → a ≡ b
same_alone c a b f g e = decimal_injective a b f g cc

same_words : (l m : Line) → FiguresFit l → FiguresFit m → words_of l ≡ words_of m → l ≡ m
same_words (Populated a) (Populated b) f g e = ap Populated (same_alone _ a b (omega arith) (omega arith) e)
same_words (Released a) (Released b) f g e = ap Released (same_alone _ a b (omega arith) (omega arith) e)
same_words (Protected a) (Protected b) f g e = ap Protected (same_alone _ a b (omega arith) (omega arith) e)
same_words (Tried a) (Tried b) f g e = ap Tried (same_alone _ a b (omega arith) (omega arith) e)
same_words (Touched a k) (Touched b j) f g e =
    let rest : decimal a ++ 32 ∷ mark_letter k ∷ [] ≡ decimal b ++ 32 ∷ mark_letter j ∷ [] = cc in
    let (figure, mark) = same_figure a b (mark_letter k ∷ []) (mark_letter j ∷ []) f g rest in
    ap₂ Touched figure (mark_apart k j cc)
same_words (Counted a b c d) (Counted k l m n) f g e =
    let joined = simp append_assoc at e in
    let rest : decimal a ++ 32 ∷ (decimal b ++ 32 ∷ (decimal c ++ 32 ∷ decimal d)) ≡ decimal k ++ 32 ∷ (decimal l ++ 32 ∷ (decimal m ++ 32 ∷ decimal n)) = cc in
    let (nodes, second) = same_figure a k _ _ (omega arith) (omega arith) rest in
    let (rows, third) = same_figure b l _ _ (omega arith) (omega arith) second in
    let (pages, fourth) = same_figure c m _ _ (omega arith) (omega arith) third in
    let fills : d ≡ n = decimal_injective d n (omega arith) (omega arith) fourth in
    cc
same_words (Refused k m) (Refused j n) f g e =
    let letters : letter_of k ≡ letter_of j = cc in
    let figures : decimal m ≡ decimal n = cc in
    ap₂ Refused (letter_apart k j letters) (decimal_injective m n (omega arith) (omega arith) figures)
same_words (Faulted t m) (Faulted u n) f g e =
    let rest : decimal (trouble_number t) ++ 32 ∷ decimal m ≡ decimal (trouble_number u) ++ 32 ∷ decimal n = cc in
    let (numbers, places) = same_figure (trouble_number t) (trouble_number u) _ _ (trouble_small t) (trouble_small u) rest in
    ap₂ Faulted (trouble_apart t u numbers) (decimal_injective m n (omega arith) (omega arith) places)
same_words (Refused k m) l f g e = absurd (marked l _ _ g (sym e))
same_words l (Refused k m) f g e = absurd (marked l _ _ f e)
same_words l m f g e = absurd (omega (arith, ap (λ words. get_or words 0 0) e))

pub one_line : OneLine
one_line l m f g e = same_words l m f g (append_cancel_right (words_of l) (words_of m) (codes "\n") e)
