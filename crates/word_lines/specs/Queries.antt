-- What a line asks.
use Rattle.std.specs.Prelude.{ℕ, List, [], ◌∷◌, Some, None, Option}
use Rattle.word_lines.specs.declared.query.Query.{Query}
use Rattle.word_lines.specs.Numerals.{number_in, digits_of_word}
use Rattle.word_lines.specs.Pieces.{fields_of}

abbrev pub query : Option ℕ → Option ℕ → Option ℕ → Option Query
query (Some f) (Some w) (Some o) = Some (record { form = f; word = w; offset = o })
query (Some f) (Some w) None = None
query (Some f) None o = None
query None w o = None

-- exactly three fields: a form, a word in hexadecimal and an offset
abbrev pub asked : List (List ℕ) → Option Query
asked [] = None
asked (f ∷ []) = None
asked (f ∷ w ∷ []) = None
asked (f ∷ w ∷ o ∷ []) = query (number_in 10 f) (number_in 16 (digits_of_word w)) (number_in 10 o)
asked (f ∷ w ∷ o ∷ x ∷ xs) = None

abbrev pub query_of : List ℕ → Option Query
query_of line = asked (fields_of line)
