-- What a walk along the pieces of a text, or along the fields of a line, has yet to hand out.
use Rattle.std.specs.Prelude.{ℕ, List, filter}
use Rattle.word_lines.specs.declared.pieces.Fields.{Fields}
use Rattle.word_lines.specs.declared.pieces.Pieces.{Pieces}
use Rattle.word_lines.specs.declared.pieces.Separator.{Separator}
use Rattle.word_lines.specs.Pieces.{pieces, has_bytes}

-- the bytes from which no piece was handed out yet
abbrev pub text_left : Pieces → List ℕ
text_left w = w.rest.now

-- what ends a piece
abbrev pub separator_of : Pieces → Separator
separator_of w = w.separator

abbrev pub pieces_left : Pieces → List (List ℕ)
pieces_left w = pieces (separator_of w) (text_left w)

-- the bytes from which no field was handed out yet
abbrev pub line_left : Fields → List ℕ
line_left w = text_left w.pieces

abbrev pub fields_left : Fields → List (List ℕ)
fields_left w = filter has_bytes (pieces_left w.pieces)
