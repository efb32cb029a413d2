-- What a line gets, and how it is written.
use Rattle.std.specs.Prelude.{ℕ, ◌+◌, ◌*◌, cond, List, [], ◌∷◌, ◌++◌, Some, None, Ok, Err, codes, decimal, Option}
use Rattle.words.specs.declared.access.Access.{Access}
use Rattle.words.specs.declared.access.Access.TheVariants.{Read, Write, Execute}
use Rattle.words.specs.Access.{allowed}
use Rattle.words.specs.Faults.{read_fault_number, reason}
use Rattle.words.specs.Reading.{reading}
use Rattle.word_lines.specs.declared.query.Query.{Query}
use Rattle.word_lines.specs.declared.response.Response.{Response}
use Rattle.word_lines.specs.declared.response.Response.TheVariants.{Answer, Malformed}
use Rattle.word_lines.specs.Pieces.{lines_of}
use Rattle.word_lines.specs.Queries.{query_of}

-- a query gets what the word reader says, and a line that is no query its own number
abbrev pub response_to : ℕ → Option Query → Response
response_to n (Some q) = Answer (reading q.form q.word q.offset)
response_to n None = Malformed n

abbrev pub response : ℕ → List ℕ → Response
response n line = response_to n (query_of line)

abbrev pub letter_of : Access → List ℕ
letter_of Read = codes "r"
letter_of Write = codes "w"
letter_of Execute = codes "x"

-- the letter of an access that the attributes allow, and else a dash
abbrev pub letter : ℕ → Access → List ℕ
letter a x = cond (allowed a x) (letter_of x) (codes "-")

abbrev pub response_text : Response → List ℕ
response_text (Answer (Ok t)) =
    codes "frame " ++ (decimal t.frame ++ (codes " address " ++ (decimal (t.frame * 4096)
    ++ (codes " attributes " ++ (decimal t.attributes ++ (codes " " ++ (letter t.attributes Read ++ (letter t.attributes Write ++ letter t.attributes Execute))))))))
response_text (Answer (Err e)) = codes "refused " ++ (decimal (read_fault_number e) ++ (codes ": " ++ reason e))
response_text (Malformed n) = codes "line " ++ (decimal n ++ codes ": not a form, a word in hexadecimal and an offset")

-- a line feed after each response; lines are numbered on from n
abbrev pub responses : ℕ → List (List ℕ) → List ℕ
responses n [] = []
responses n (l ∷ ls) = response_text (response n l) ++ (10 ∷ responses (n + 1) ls)

-- the responses to the lines of a text, numbered from 1
abbrev pub responses_to : List ℕ → List ℕ
responses_to text = responses 1 (lines_of text)
