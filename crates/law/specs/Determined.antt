-- The law leaves nothing open but what it names.
use Rattle.std.specs.Prelude.{◌≡◌, ℕ, Ok, Some, None, Option}
use Rattle.tlb.specs.Meaning.{TlbMeaning}
use Rattle.frames.specs.Meaning.{FramesMeaning}
use Rattle.law.specs.declared.calls.Event.{Event}
use Rattle.law.specs.declared.calls.Event.TheVariants as event
use Rattle.law.specs.Calls.{call_of}
use Rattle.law.specs.PageMap.{PageMap, next}
use Rattle.law.specs.Law.{State, Right}

-- an event without what is free in its answer: the frame that begin takes, and how many nodes a walk looked at
abbrev pub fixed : Event → Event
fixed (event.Begin address (Ok frame)) = event.Begin address (Ok 0)
fixed (event.Walk address (Ok walked)) = event.Walk address (Ok (record { word = walked.word; looked = 0 }))
fixed other = other

-- the frame that a begin took
abbrev pub taken_frame : Event → Option ℕ
taken_frame (event.Begin address (Ok frame)) = Some frame
taken_frame other = None

-- one answer, one map, and the same frames out
module _ {A B : Type 0} (k : FramesMeaning B) (m : PageMap) where
  pub record SameButFree (e f : Event) (u v : State A B) : Type 0 where
    pub answer : fixed e ≡ fixed f
    pub pages : (next m e).pages ≡ (next m f).pages
    pub fills : taken_frame e ≡ taken_frame f → (next m e).fills ≡ (next m f).fills
    pub out : taken_frame e ≡ taken_frame f → k.out u.frames ≡ k.out v.frames
    pub stock : k.stock u.frames ≡ k.stock v.frames

-- two right answers to one call, from the same map and state, are the same and leave the same map and the same frames out, but for what is free
abbrev pub OneRightAnswer : {A B : Type 0} → TlbMeaning A → FramesMeaning B → Type 0
OneRightAnswer {A} {B} t k =
    (m : PageMap) (s u v : State A B) (e f : Event) → call_of e ≡ call_of f → Right t k m s e u → Right t k m s f v → SameButFree k m e f u v
