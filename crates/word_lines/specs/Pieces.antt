-- The lines of a text, and the fields of a line.
use Rattle.std.specs.Prelude.{ℕ, Bool, true, false, cond, ◌||◌, List, [], ◌∷◌, filter, ◌==◌}
use Rattle.word_lines.specs.declared.pieces.Separator.{Separator}
use Rattle.word_lines.specs.declared.pieces.Separator.TheVariants.{LineFeed, Blank}

-- a line ends at a line feed; blanks are the space, the tab and the carriage return
abbrev pub separates : Separator → ℕ → Bool
separates LineFeed b = b == 10
separates Blank b = b == 32 || (b == 9 || b == 13)

-- the first piece begins with one byte more
abbrev pub begun : ℕ → List (List ℕ) → List (List ℕ)
begun b [] = (b ∷ []) ∷ []
begun b (p ∷ ps) = (b ∷ p) ∷ ps

-- the pieces of a text: each ends at a separator, and the last may end with the text
abbrev pub pieces : Separator → List ℕ → List (List ℕ)
pieces s [] = []
pieces s (b ∷ bs) = cond (separates s b) ([] ∷ pieces s bs) (begun b (pieces s bs))

abbrev pub lines_of : List ℕ → List (List ℕ)
lines_of text = pieces LineFeed text

-- not empty
abbrev pub has_bytes : List ℕ → Bool
has_bytes [] = false
has_bytes (b ∷ bs) = true

-- the fields of a line: its longest runs of bytes that are no blanks, so its pieces between blanks that are not empty
abbrev pub fields_of : List ℕ → List (List ℕ)
fields_of line = filter has_bytes (pieces Blank line)
