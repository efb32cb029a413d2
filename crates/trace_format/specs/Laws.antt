-- What the format determines.
use Rattle.std.specs.Prelude.{◌≡◌, ℕ, ◌+◌, List, [], ◌∷◌, ◌++◌, length, drop, Ok, Err, Some, None, Option}
use Rattle.trace_format.specs.declared.record.Kind.{Kind}
use Rattle.trace_format.specs.declared.record.Record.{Record}
use Rattle.trace_format.specs.declared.fault.Trouble.{Trouble}
use Rattle.trace_format.specs.declared.fault.Fault.{Fault}
use Rattle.trace_format.specs.declared.reader.Part.{Part}
use Rattle.trace_format.specs.declared.line.Line.{Line}
use Rattle.trace_format.specs.Bytes.{AllFit, Begins, Broken, spelled}
use Rattle.trace_format.specs.Records.{IsRecordOf, Reads, Ends, Reading}
use Rattle.trace_format.specs.Lines.{FiguresFit, text_of}

-- some bytes begin with one record, or one thing is wrong with them, and not both
pub record OneTrouble : Type 0 where
  pub one : (bytes : List ℕ) (trouble other : Trouble) → Broken bytes trouble → Broken bytes other → trouble ≡ other
  pub begun : (bytes : List ℕ) (kind other : Kind) (payload another : List ℕ)
      → Begins bytes kind payload → Begins bytes other another → (kind ≡ other) × (payload ≡ another)
  pub apart : (bytes : List ℕ) (trouble : Trouble) (kind : Kind) (payload : List ℕ) → Broken bytes trouble → Begins bytes kind payload → ⊥

-- two readings of one input from one place are the same, and end alike
abbrev pub OneReading : Type 0
OneReading =
    (input : List ℕ) (place : ℕ) (records others : List Record) (ending other : Option Fault)
    → Reading input place records ending → Reading input place others other → (records ≡ others) × (ending ≡ other)

-- the answers of a reader, from one place on, are a reading: at the last the input ends there or the fault stands there, and a
-- record that is handed out is the first of a reading from its place on
pub record AnswersRead : Type 0 where
  pub none : (input : List ℕ) (from to : ℕ) → Reads input from (Ok None) to → Reading input from [] None
  pub fault : (input : List ℕ) (from to : ℕ) (fault : Fault) → Reads input from (Err fault) to → Reading input from [] (Some fault)
  pub some : (input : List ℕ) (from to : ℕ) (part : Part) (first : Record) (others : List Record) (ending : Option Fault)
      → Reads input from (Ok (Some part)) to → IsRecordOf part first → Reading input to others ending
      → Reading input from (first ∷ others) ending

-- the records, spelled out, stand in the input from this place on, and behind them it ends so
pub record Spells (input : List ℕ) (place : ℕ) (records : List Record) (ending : Option Fault) : Type 0 where
  pub whole : drop place input ≡ spelled records ++ drop (place + length (spelled records)) input
  pub behind : Ends input (place + length (spelled records)) ending

-- what is read is what is spelled, and what is spelled is read
pub record SpelledAgain : Type 0 where
  pub read : (input : List ℕ) (place : ℕ) (records : List Record) (ending : Option Fault)
      → Reading input place records ending → Spells input place records ending
  pub written : (input : List ℕ) (place : ℕ) (records : List Record) (ending : Option Fault)
      → AllFit records → Spells input place records ending → Reading input place records ending

-- two lines that differ never have one text
abbrev pub OneLine : Type 0
OneLine = (line other : Line) → FiguresFit line → FiguresFit other → text_of line ≡ text_of other → line ≡ other
