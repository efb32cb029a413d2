-- Lines as bytes.
use Rattle.std.specs.Prelude.{◌≡◌, ℕ, ◌^◌, ◌<◌, List, [], ◌∷◌, ◌++◌, length, drop, decimal, codes}
use Rattle.trace_format.specs.declared.line.Mark.{Mark}
use Rattle.trace_format.specs.declared.line.Mark.TheVariants.{Hit, Missed}
use Rattle.trace_format.specs.declared.line.Line.{Line}
use Rattle.trace_format.specs.declared.line.Line.TheVariants as line
use Rattle.trace_format.specs.declared.record.Kind.{Kind}
use Rattle.trace_format.specs.declared.record.Kind.TheVariants.{Populate, Release, Protect, Touch, Try, Census}
use Rattle.trace_format.specs.Faults.{trouble_number}

-- p, r, a, t, f, c
abbrev pub letter_of : Kind → ℕ
letter_of Populate = 112
letter_of Release = 114
letter_of Protect = 97
letter_of Touch = 116
letter_of Try = 102
letter_of Census = 99

-- a space and a number in decimal
abbrev pub figure : ℕ → List ℕ
figure n = 32 ∷ decimal n

-- h, w
abbrev pub mark_letter : Mark → ℕ
mark_letter Hit = 104
mark_letter Missed = 119

-- a line, without its line feed
abbrev pub words_of : Line → List ℕ
words_of (line.Populated frame) = letter_of Populate ∷ figure frame
words_of (line.Released frame) = letter_of Release ∷ figure frame
words_of (line.Protected attributes) = letter_of Protect ∷ figure attributes
words_of (line.Touched physical mark) = letter_of Touch ∷ figure physical ++ 32 ∷ mark_letter mark ∷ []
words_of (line.Tried frame) = letter_of Try ∷ figure frame
words_of (line.Counted nodes rows pages fills) = letter_of Census ∷ figure nodes ++ figure rows ++ figure pages ++ figure fills
words_of (line.Refused kind number) = letter_of kind ∷ (codes " !" ++ decimal number)
words_of (line.Faulted trouble place) = codes "x" ++ figure (trouble_number trouble) ++ figure place

-- the figures of a line fit their widths
abbrev pub FiguresFit : Line → Type 0
FiguresFit (line.Populated frame) = frame < 2 ^ 32
FiguresFit (line.Released frame) = frame < 2 ^ 32
FiguresFit (line.Protected attributes) = attributes < 2 ^ 16
FiguresFit (line.Touched physical mark) = physical < 2 ^ 64
FiguresFit (line.Tried frame) = frame < 2 ^ 32
FiguresFit (line.Counted nodes rows pages fills) = (nodes < 2 ^ 32) × (rows < 2 ^ 32) × (pages < 2 ^ 32) × (fills < 2 ^ 32)
FiguresFit (line.Refused kind number) = number < 2 ^ 32
FiguresFit (line.Faulted trouble place) = place < 2 ^ 32

abbrev pub text_of : Line → List ℕ
text_of line = words_of line ++ codes "\n"

-- the line stands at the front, and the rest is as it was
pub record HasLine (line : Line) (before : List ℕ) (n : ℕ) (now : List ℕ) : Type 0 where
  pub long : n ≡ length (text_of line)
  pub bytes : now ≡ text_of line ++ drop n before
