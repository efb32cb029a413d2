-- Runs of calls from a new space, and what follows of frames and of the miss handler.
use Rattle.std.specs.Prelude.{◌≡◌, ◌≢◌, ℕ, ◌+◌, ◌*◌, List, [], ◌∷◌, map, take, drop, Ok, Some}
use Rattle.words.specs.declared.translation.Translation.{Translation}
use Rattle.words.specs.Layout.{page_of, offset_of}
use Rattle.words.specs.Reading.{translation, form_number, reading, answer_number}
use Rattle.words.specs.Words.{form_of, bits_of}
use Rattle.words.specs.Blocks.{Mapping}
use Rattle.blocks.specs.declared.blocks.Walked.{Walked}
use Rattle.tlb.specs.Meaning.{TlbMeaning, Lacks}
use Rattle.frames.specs.Meaning.{FramesMeaning}
use Rattle.fills.specs.declared.underway.Underway.{Underway}
use Rattle.table.specs.Calls.{unmapped, mapped, protected}
use Rattle.law.specs.declared.calls.Call.{Call}
use Rattle.law.specs.declared.calls.Event.{Event}
use Rattle.law.specs.declared.calls.Event.TheVariants as event
use Rattle.law.specs.Calls.{call_of}
use Rattle.law.specs.PageMap.{PageMap, nothing, next, after}
use Rattle.law.specs.Law.{State, Right, Sound, Accounted}

-- a list of events leads from one state to another, by a map that each event makes anew: each event is right, and something holds before, between
-- and after them
module _ {M S E : Type 0} (holds : M → S → Type 0) (right : M → S → E → S → Type 0) (next : M → E → M) where
  abbrev pub Run : M → S → List E → S → Type 0
  Run m s [] u = holds m s × (u ≡ s)
  Run m s (e ∷ es) u = holds m s × ((v : S) × right m s e v × Run (next m e) v es u)

module _ {A B : Type 0} (t : TlbMeaning A) (k : FramesMeaning B) where
  -- what holds of a space that was made from the allocator `start`
  pub record Kept (start : B) (m : PageMap) (s : State A B) : Type 0 where
    pub sound : Sound t k m s
    pub accounted : Accounted k start m s.frames

  abbrev pub SpaceRun : B → PageMap → State A B → List Event → State A B → Type 0
  SpaceRun start = Run (Kept start) (Right t k) next

  -- the law: the events are a run from a new space, whose map has nothing, whose TLB was flushed, and whose allocator is as it was given
  pub record Obeys (tlb : A) (frames : B) (es : List Event) (u : State A B) : Type 0 where
    pub first : A
    pub flushed : t.flushed tlb first
    pub empty : (page : ℕ) → Lacks t.pairs first page
    pub run : SpaceRun frames nothing (record { tlb = first; frames = frames }) es u

-- what holds of a space holds after each right event
abbrev pub Stays : {A B : Type 0} → TlbMeaning A → FramesMeaning B → Type 0
Stays {A} {B} t k =
    (m : PageMap) (s u : State A B) (e : Event) → Sound t k m s → Right t k m s e u
    → Sound t k (next m e) u × ((start : B) → Kept t k start m s → Kept t k start (next m e) u)

-- the first n places have the events of the first n calls, and the other places are as they were
pub record Answered (calls : List Call) (before now : List Event) (n : ℕ) : Type 0 where
  pub own : map call_of (take n now) ≡ take n calls
  pub rest : drop n now ≡ drop n before

-- no frame is behind two pages, in two fills, or behind a page and in a fill
pub record Apart (m : PageMap) : Type 0 where
  pub pages : (p q : ℕ) (x y : Translation) → m.pages p ≡ Some x → m.pages q ≡ Some y → x.frame ≡ y.frame → p ≡ q
  pub fills : (p q : ℕ) (x y : Underway) → m.fills p ≡ Some x → m.fills q ≡ Some y → x.frame ≡ y.frame → p ≡ q
  pub both : (p q : ℕ) (x : Translation) (y : Underway) → m.pages p ≡ Some x → m.fills q ≡ Some y → x.frame ≢ y.frame

-- for each page the frame of its last accepted settle, with the attributes of the last accepted settle or protect: before and after one event more
abbrev pub given_by : Mapping → Event → Mapping
given_by given (event.Settle page fill attributes (Ok frame)) = mapped given page.number (translation fill.frame attributes)
given_by given (event.Protect address attributes (Ok former)) = protected given (page_of address) attributes
given_by given other = given

abbrev pub given_in : Mapping → List Event → Mapping
given_in given [] = given
given_in given (e ∷ es) = given_in (given_by given e) es

abbrev pub last_given : List Event → Mapping
last_given es = given_in unmapped es

-- what the word reader answers for the page, given the form and the word of a walk
abbrev pub handler_reads : ℕ → Walked → ℕ
handler_reads page w = answer_number (reading (form_number (form_of w.word)) (bits_of w.word) (offset_of page))

-- the reader answers the frame and the attributes that the page was given last
abbrev pub ReadsGiven : List Event → ℕ → Walked → Type 0
ReadsGiven es page w =
    (t : Translation) × (last_given es page ≡ Some t) × (handler_reads page w ≡ t.frame * 4096 + t.attributes)

-- after any run no frame is at two places, and a walk leads the reader to the frame and the attributes that the page was given last
abbrev pub FramesApart : {A B : Type 0} → TlbMeaning A → FramesMeaning B → Type 0
FramesApart {A} {B} t k =
    (tlb : A) (frames : B) (es : List Event) (u : State A B) → Obeys t k tlb frames es u
    → Apart (after nothing es)
    × ((address : ℕ) (w : Walked) (v : State A B) → Right t k (after nothing es) u (event.Walk address (Ok w)) v → ReadsGiven es (page_of address) w)
