-- What a reader makes of an input.
use Rattle.std.specs.Prelude.{◌≡◌, ℕ, ◌+◌, List, [], ◌∷◌, length, drop, Ok, Err, Some, None, Option, Result}
use Rattle.trace_format.specs.declared.record.Record.{Record}
use Rattle.trace_format.specs.declared.reader.Part.{Part}
use Rattle.trace_format.specs.declared.fault.Fault.{Fault}
use Rattle.trace_format.specs.declared.reader.Reader.{Reader}
use Rattle.trace_format.specs.Bytes.{kind_of, payload_of, Fits, Begins, Broken}

abbrev pub input_of : Reader → List ℕ
input_of r = r.input.now

abbrev pub place_of : Reader → ℕ
place_of r = r.position

-- the record with its numbers
pub record IsRecordOf (part : Part) (numbers : Record) : Type 0 where
  pub kind : kind_of numbers ≡ part.kind
  pub payload : payload_of numbers ≡ part.payload.now
  pub fits : Fits numbers

-- from one place on, a reader of the input gives this answer and goes on to another place
abbrev pub Reads : List ℕ → ℕ → Result (Option Part) Fault → ℕ → Type 0
Reads input from (Ok None) to = (drop from input ≡ []) × (to ≡ from)
Reads input from (Ok (Some part)) to =
    (part.place ≡ from) × (to ≡ from + 3 + length part.payload.now) × Begins (drop from input) part.kind part.payload.now
Reads input from (Err fault) to = (fault.place ≡ from) × Broken (drop from input) fault.trouble × (to ≡ from)

-- at this place the input ends, or the fault stands
abbrev pub Ends : List ℕ → ℕ → Option Fault → Type 0
Ends input place None = drop place input ≡ []
Ends input place (Some fault) = (fault.place ≡ place) × Broken (drop place input) fault.trouble

-- from one place on, the input has these records, one after another, and then ends so
abbrev pub Reading : List ℕ → ℕ → List Record → Option Fault → Type 0
Reading input place [] ending = Ends input place ending
Reading input place (first ∷ others) ending =
    Fits first × Begins (drop place input) (kind_of first) (payload_of first)
    × Reading input (place + 3 + length (payload_of first)) others ending
