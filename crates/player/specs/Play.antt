-- A whole trace, from its bytes to its lines.
use Rattle.std.specs.Prelude.{◌≡◌, ℕ, List, [], ◌∷◌, ◌++◌, take, Some, None, Option}
use Rattle.std.specs.Io.KnownBytes.{Appends}
use Rattle.tlb.specs.Meaning.{TlbMeaning}
use Rattle.frames.specs.Meaning.{FramesMeaning}
use Rattle.law.specs.declared.calls.Event.{Event}
use Rattle.law.specs.Law.{State}
use Rattle.law.specs.Runs.{Obeys}
use Rattle.trace_format.specs.declared.fault.Fault.{Fault}
use Rattle.trace_format.specs.declared.line.Line.{Line}
use Rattle.trace_format.specs.declared.line.Line.TheVariants.{Faulted}
use Rattle.trace_format.specs.declared.record.Record.{Record}
use Rattle.trace_format.specs.Lines.{text_of}
use Rattle.trace_format.specs.Records.{Reading}
use Rattle.player.specs.Steps.{Asks}

-- the events are what the records ask for, one record after another, and each record has its line
pub data Tells : List Record → List Event → List Line → Type 0 where
  none : Tells [] [] []
  further : {records : List Record} {events its : List Event} {lines : List Line} {asked : Record} {answer : Line}
      → Tells records events lines → Asks asked its answer → Tells (records ++ asked ∷ []) (events ++ its) (lines ++ answer ∷ [])

-- the line of a fault
abbrev pub last_line : Option Fault → List Line
last_line None = []
last_line (Some fault) = Faulted fault.trouble fault.place ∷ []

-- lines, one after another
abbrev pub text_of_all : List Line → List ℕ
text_of_all [] = []
text_of_all (first ∷ others) = text_of first ++ text_of_all others

module _ {A B : Type 0} (t : TlbMeaning A) (k : FramesMeaning B) where
  -- the text is the lines of the input's records, and of its fault where it has one; their events are a run from a new space of the TLB and the
  -- allocator
  pub record Plays (tlb : A) (frames : B) (input written : List ℕ) : Type 0 where
    pub records : List Record
    pub ending : Option Fault
    pub reading : Reading input 0 records ending
    pub events : List Event
    pub lines : List Line
    pub tells : Tells records events lines
    pub last : State A B
    pub law : Obeys t k tlb frames events last
    pub whole : written ≡ text_of_all (lines ++ last_line ending)

  -- the text of the input was written
  abbrev pub WritesPlay : A → B → List ℕ → Option (List ℕ) → Option (List ℕ) → Type 0
  WritesPlay tlb frames input old new = (written : List ℕ) × Plays tlb frames input written × Appends old new written

  -- a front of the text of a front of the input was
  pub record WritesFront (tlb : A) (frames : B) (input : List ℕ) (old new : Option (List ℕ)) : Type 0 where
    pub front : ℕ
    pub written : List ℕ
    pub plays : Plays tlb frames (take front input) written
    pub many : ℕ
    pub appends : Appends old new (take many written)
