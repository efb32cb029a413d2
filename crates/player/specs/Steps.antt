-- What a record asks for, and the line that says what came of it.
use Rattle.std.specs.Prelude.{◌≡◌, ℕ, List, [], ◌∷◌, Ok, Err, Result}
use Rattle.words.specs.declared.address.Page.{Page}
use Rattle.words.specs.declared.translation.Translation.{Translation}
use Rattle.words.specs.Layout.{page_of}
use Rattle.tlb.specs.declared.tlb.Tlb as tlb
use Rattle.frames.specs.declared.allocator.FrameAllocator as allocator
use Rattle.fills.specs.declared.underway.Underway.{Underway}
use Rattle.table.specs.declared.fault.ProtectFault.{ProtectFault}
use Rattle.table.specs.Faults.{protect_number}
use Rattle.law.specs.declared.calls.Census.{Census}
use Rattle.law.specs.declared.calls.Event.{Event}
use Rattle.law.specs.declared.calls.Event.TheVariants as event
use Rattle.law.specs.declared.calls.Mark.{Mark}
use Rattle.law.specs.declared.calls.Mark.TheVariants as touched
use Rattle.law.specs.declared.calls.Touched.{Touched}
use Rattle.law.specs.declared.fault.BeginFault.{BeginFault}
use Rattle.law.specs.declared.fault.ReleaseFault.{ReleaseFault}
use Rattle.law.specs.declared.fault.SettleFault.{SettleFault}
use Rattle.law.specs.declared.fault.TouchFault.{TouchFault}
use Rattle.law.specs.Faults.{begin_number, settle_number, release_number, touch_number}
use Rattle.space.specs.declared.space.Space.{Space}
use Rattle.space.specs.Space.{Lawful}
use Rattle.trace_format.specs.declared.line.Line.{Line}
use Rattle.trace_format.specs.declared.line.Line.TheVariants as line
use Rattle.trace_format.specs.declared.line.Mark as written
use Rattle.trace_format.specs.declared.line.Mark.TheVariants as letter
use Rattle.trace_format.specs.declared.record.Kind.TheVariants as kind
use Rattle.trace_format.specs.declared.record.Record.{Record}
use Rattle.trace_format.specs.declared.record.Record.TheVariants as asked
use Rattle.trace_format.specs.Bytes.{kind_of}
use Rattle.player.specs.declared.fault.StepFault.{StepFault}
use Rattle.player.specs.Faults.{step_number}

abbrev pub line_mark : Mark → written.Mark
line_mark touched.Hit = letter.Hit
line_mark touched.Missed = letter.Missed

-- the record asks for the calls of these events, in their order, and the line says what they answered
pub data Asks : Record → List Event → Line → Type 0 where
  -- a populate begins a fill of the page and settles it; where that is refused, it abandons it
  populated : {address attributes answer : ℕ} {page : Page} {fill : Underway} → page.number ≡ page_of address
      → Asks (asked.Populate address attributes)
      (event.Begin address (Ok fill.frame) ∷ event.Settle page fill attributes (Ok answer) ∷ [])
      (line.Populated answer)
  not_settled : {address attributes answer : ℕ} {page : Page} {fill : Underway} {fault : SettleFault} → page.number ≡ page_of address
      → Asks (asked.Populate address attributes)
      (event.Begin address (Ok fill.frame) ∷ event.Settle page fill attributes (Err fault) ∷ event.Abandon page fill (Ok answer) ∷ [])
      (line.Refused kind.Populate (settle_number fault))
  not_begun : {address attributes : ℕ} {fault : BeginFault}
      → Asks (asked.Populate address attributes) (event.Begin address (Err fault) ∷ []) (line.Refused kind.Populate (begin_number fault))
  released : {address : ℕ} {former : Translation}
      → Asks (asked.Release address) (event.Release address (Ok former) ∷ []) (line.Released former.frame)
  not_released : {address : ℕ} {fault : ReleaseFault}
      → Asks (asked.Release address) (event.Release address (Err fault) ∷ []) (line.Refused kind.Release (release_number fault))
  protected : {address attributes former : ℕ}
      → Asks (asked.Protect address attributes) (event.Protect address attributes (Ok former) ∷ []) (line.Protected former)
  not_protected : {address attributes : ℕ} {fault : ProtectFault}
      → Asks (asked.Protect address attributes) (event.Protect address attributes (Err fault) ∷ [])
      (line.Refused kind.Protect (protect_number fault))
  accessed : {address access : ℕ} {answer : Touched}
      → Asks (asked.Touch address access) (event.Touch address access (Ok answer) ∷ []) (line.Touched answer.physical (line_mark answer.mark))
  not_accessed : {address access : ℕ} {fault : TouchFault}
      → Asks (asked.Touch address access) (event.Touch address access (Err fault) ∷ []) (line.Refused kind.Touch (touch_number fault))
  -- a try begins a fill of the page and abandons it
  tried : {address answer : ℕ} {page : Page} {fill : Underway} → page.number ≡ page_of address
      → Asks (asked.Try address) (event.Begin address (Ok fill.frame) ∷ event.Abandon page fill (Ok answer) ∷ []) (line.Tried answer)
  not_tried : {address : ℕ} {fault : BeginFault}
      → Asks (asked.Try address) (event.Begin address (Err fault) ∷ []) (line.Refused kind.Try (begin_number fault))
  counted : {counts : Census}
      → Asks asked.Census (event.Census counts ∷ []) (line.Counted counts.nodes counts.rows counts.pages counts.fills)

-- the line of a record: what was answered, or the number of the refusal
abbrev pub said : Record → Result Line StepFault → Line
said asked (Ok answer) = answer
said asked (Err fault) = line.Refused (kind_of asked) (step_number fault)

module _ {A B : Type 0} {t : tlb.Ghosts A} {k : allocator.Ghosts B} where
  -- the events lead from one space to another, each as the law of the space has it
  abbrev pub Leads : Space A B t k → List Event → Space A B t k → Type 0
  Leads s [] u = u ≡ s
  Leads s (first ∷ others) u = (v : Space A B t k) × Lawful s first v × Leads v others u

  -- what the record asks for was carried out, and the line says what came of it
  pub record Steps (s : Space A B t k) (asked : Record) (answer : Line) (u : Space A B t k) : Type 0 where
    pub events : List Event
    pub asks : Asks asked events answer
    pub leads : Leads s events u

  abbrev pub Answers : Space A B t k → Record → Result Line StepFault → Space A B t k → Type 0
  Answers s asked answer u = Steps s asked (said asked answer) u
