-- What is right of each call: its answer and what it does, by the page map before it.
-- Throughout, t is what the TLB means, k what the allocator means, m the page map before the call, s the state before it and u the state after it.
use Rattle.std.specs.Prelude.{◌≡◌, ℕ, ◌+◌, ◌*◌, ◌%◌, true, false, ◌⊎◌, List, Ok, Err, Some, None}
use Rattle.words.specs.declared.translation.Translation.{Translation}
use Rattle.words.specs.Layout.{page_of}
use Rattle.words.specs.Refusals.{First, Accepted}
use Rattle.words.specs.Blocks.{Mapping, StandsFor}
use Rattle.words.specs.Words.{form_of, bits_of}
use Rattle.tlb.specs.declared.entry.Entry.{Entry}
use Rattle.tlb.specs.Meaning.{TlbMeaning, Lacks, Within, Loads}
use Rattle.frames.specs.declared.fault.AllocateFault.TheVariants.{AllOut}
use Rattle.frames.specs.Meaning.{FramesMeaning, Takes, Gives}
use Rattle.blocks.specs.declared.blocks.Walked.{Walked}
use Rattle.blocks.specs.Blocks.{Walks}
use Rattle.fills.specs.declared.underway.Underway.{Underway}
use Rattle.fills.specs.Fills.{WaitingPages}
use Rattle.table.specs.Calls.{Counts, mapped_refusals, protect_refusals}
use Rattle.table.specs.Faults.{protect_number, not_mapped_number}
use Rattle.law.specs.declared.calls.Census.{Census}
use Rattle.law.specs.declared.calls.Mark.{Mark}
use Rattle.law.specs.declared.calls.Mark.TheVariants.{Hit, Missed}
use Rattle.law.specs.declared.calls.Touched.{Touched}
use Rattle.law.specs.declared.calls.Event.{Event}
use Rattle.law.specs.declared.calls.Event.TheVariants as event
use Rattle.law.specs.declared.fault.BeginFault.TheVariants as begin
use Rattle.law.specs.declared.fault.TouchFault.TheVariants as touch
use Rattle.law.specs.Faults.{begin_number, settle_number, abandon_number, release_number, touch_number}
use Rattle.law.specs.PageMap.{PageMap, frame_at}
use Rattle.law.specs.Refusals.{begin_refusals, settle_refusals, abandon_refusals, touch_refusals}

-- what the law sees of a space besides its map: the TLB and the allocator
pub record State (A B : Type 0) : Type 0 where
  pub tlb : A
  pub frames : B

-- the entry that a walk answers for the page
pub record IsEntry (m : Mapping) (page : ℕ) (entry : Entry) : Type 0 where
  pub of_page : entry.page.number ≡ page
  pub stands : StandsFor m page (form_of entry.word) (bits_of entry.word)

-- the TLB before is a, and after it is b
module _ {A : Type 0} (t : TlbMeaning A) where
  -- the TLB has a pair of the page
  abbrev pub HasPair : A → ℕ → Type 0
  HasPair a page = (x : Translation) × t.pairs a page x

  -- the TLB has no pair that the map has not
  abbrev pub Coherent : Mapping → A → Type 0
  Coherent m a = (page : ℕ) (x : Translation) → t.pairs a page x → m page ≡ Some x

  -- Hit where the TLB had a pair of the page, Missed where it had none
  abbrev pub Marked : Mark → A → ℕ → Type 0
  Marked Hit a page = HasPair a page
  Marked Missed a page = Lacks t.pairs a page

  -- the page was probed in vain
  pub record ProbedInVain (a : A) (page : ℕ) (b : A) : Type 0 where
    pub probed : t.probed a page None b
    pub lacks : Lacks t.pairs a page
    pub within : Within t.pairs a b

  -- the entry that a walk answers for the page came in
  pub record Filled (m : Mapping) (a : A) (page : ℕ) (b : A) : Type 0 where
    pub entry : Entry
    pub is_entry : IsEntry m page entry
    pub loaded : t.loaded a entry page b
    pub loads : Loads t.pairs a entry page b

  -- what the TLB was asked: at a hit it answered the translation x; else it was probed in vain, and then it took in the walk's entry
  abbrev pub Asked : Mapping → Mark → A → ℕ → Translation → A → Type 0
  Asked m Hit a page x b = t.probed a page (Some x) b × Within t.pairs a b
  Asked m Missed a page x b = (c : A) × ProbedInVain a page c × Filled m c page b

  -- the page, which is mapped to x, was looked up; afterwards the TLB has its pair
  pub record LookedUp (m : Mapping) (mark : Mark) (a : A) (page : ℕ) (x : Translation) (b : A) : Type 0 where
    pub here : m page ≡ Some x
    pub marked : Marked mark a page
    pub asked : Asked m mark a page x b
    pub pair : t.pairs b page x

  -- the TLB was purged of the page
  pub record Purged (a : A) (page : ℕ) (b : A) : Type 0 where
    pub step : t.purged a page b
    pub gone : Lacks t.pairs b page
    pub within : Within t.pairs a b

-- the allocator before is a, and after it is b
module _ {B : Type 0} (k : FramesMeaning B) where
  -- the frame, which was in, was taken for the page
  pub record Allocated (a : B) (page frame : ℕ) (b : B) : Type 0 where
    pub step : k.allocated a page (Ok frame) b
    pub takes : Takes k.stock k.out a (Ok frame) b
    pub stock_stays : k.stock b ≡ k.stock a

  -- the allocator was asked for a frame for the page, and refused
  pub record NotAllocated (a : B) (page : ℕ) (b : B) : Type 0 where
    pub step : k.allocated a page (Err AllOut) b
    pub takes : Takes k.stock k.out a (Err AllOut) b
    pub stock_stays : k.stock b ≡ k.stock a

  -- the frame, which was out, came in
  pub record Freed (a : B) (frame : ℕ) (b : B) : Type 0 where
    pub step : k.freed a frame (Ok tt) b
    pub gives : Gives k.out a frame (Ok tt) b
    pub stock_stays : k.stock b ≡ k.stock a

-- the first refusal of the list that applies has the number, and neither the TLB nor the allocator was called
pub record Refused {A B : Type 0} (refusals : List (Type 0 × ℕ)) (number : ℕ) (s u : State A B) : Type 0 where
  pub first : First refusals number
  pub same : u ≡ s

module _ {A B : Type 0} (t : TlbMeaning A) (k : FramesMeaning B) (m : PageMap) (s : State A B) where
  -- a frame was taken for the page: which one is free, but that it was in
  pub record Begun (page answer : ℕ) (u : State A B) : Type 0 where
    pub accepted : Accepted (begin_refusals k.stock k.out m s.frames page)
    pub allocated : Allocated k s.frames page answer u.frames
    pub same_tlb : u.tlb ≡ s.tlb

  -- every frame is out, which the allocator said
  pub record NoneLeftFor (page : ℕ) (u : State A B) : Type 0 where
    pub first : First (begin_refusals k.stock k.out m s.frames page) (begin_number begin.NoFrame)
    pub allocated : NotAllocated k s.frames page u.frames
    pub same_tlb : u.tlb ≡ s.tlb

  -- the page is mapped to the frame of its fill, which is the answer
  pub record Settled (page : ℕ) (fill : Underway) (attributes answer : ℕ) (u : State A B) : Type 0 where
    pub accepted : Accepted (settle_refusals m page fill attributes)
    pub waited : m.fills page ≡ Some fill
    pub answered : answer ≡ fill.frame
    pub same : u ≡ s

  -- the frame of the page's fill, which is the answer, came in
  pub record Abandoned (page : ℕ) (fill : Underway) (answer : ℕ) (u : State A B) : Type 0 where
    pub waited : m.fills page ≡ Some fill
    pub answered : answer ≡ fill.frame
    pub freed : Freed k s.frames fill.frame u.frames
    pub same_tlb : u.tlb ≡ s.tlb

  -- the page was mapped to the answer, whose frame came in, and the TLB was purged of the page
  pub record Released (page : ℕ) (answer : Translation) (u : State A B) : Type 0 where
    pub here : m.pages page ≡ Some answer
    pub freed : Freed k s.frames answer.frame u.frames
    pub purged : Purged t s.tlb page u.tlb

  -- the page had the attributes of the answer, and the TLB was purged of the page
  pub record Protected (page attributes answer : ℕ) (u : State A B) : Type 0 where
    pub accepted : Accepted (protect_refusals m.pages page attributes)
    pub former : Translation
    pub here : m.pages page ≡ Some former
    pub answered : answer ≡ former.attributes
    pub purged : Purged t s.tlb page u.tlb
    pub same_frames : u.frames ≡ s.frames

  -- the page was looked up, and its attributes allow the access
  pub record Accessed (address access : ℕ) (answer : Touched) (u : State A B) : Type 0 where
    pub accepted : Accepted (touch_refusals m.pages (page_of address) access)
    pub found : Translation
    pub answered : answer.physical ≡ found.frame * 4096 + address % 4096
    pub looked_up : LookedUp t m.pages answer.mark s.tlb (page_of address) found u.tlb
    pub same_frames : u.frames ≡ s.frames

  -- the page was looked up, and its attributes lack the access
  pub record Denied (page access : ℕ) (u : State A B) : Type 0 where
    pub first : First (touch_refusals m.pages page access) (touch_number touch.Denied)
    pub mark : Mark
    pub found : Translation
    pub looked_up : LookedUp t m.pages mark s.tlb page found u.tlb
    pub same_frames : u.frames ≡ s.frames

  -- the page, which is not mapped, was probed in vain
  pub record Unmapped (page access : ℕ) (u : State A B) : Type 0 where
    pub first : First (touch_refusals m.pages page access) (touch_number touch.NotMapped)
    pub probed : ProbedInVain t s.tlb page u.tlb
    pub same_frames : u.frames ≡ s.frames

  -- the word that stands for the page, by which the word reader finds just what the map has for it; free is the number of nodes that were
  -- looked at, from 1 to those of the bucket
  pub record WalkedTo (page : ℕ) (answer : Walked) (u : State A B) : Type 0 where
    pub walks : Walks m.pages page answer
    pub same : u ≡ s

  -- just what the map has
  pub record Counted (answer : Census) (u : State A B) : Type 0 where
    pub table : Counts m.pages answer.nodes answer.rows answer.pages
    pub waiting : WaitingPages m.fills answer.fills
    pub same : u ≡ s

module _ {A B : Type 0} (t : TlbMeaning A) (k : FramesMeaning B) where
  -- the event is right: it leads from the state s to the state u, as the map m says of its call
  abbrev pub Right : PageMap → State A B → Event → State A B → Type 0
  Right m s (event.Begin address (Ok frame)) u = Begun t k m s (page_of address) frame u
  Right m s (event.Begin address (Err begin.NoFrame)) u = NoneLeftFor t k m s (page_of address) u
  Right m s (event.Begin address (Err fault)) u = Refused (begin_refusals k.stock k.out m s.frames (page_of address)) (begin_number fault) s u
  Right m s (event.Settle page fill attributes (Ok frame)) u = Settled t k m s page.number fill attributes frame u
  Right m s (event.Settle page fill attributes (Err fault)) u = Refused (settle_refusals m page.number fill attributes) (settle_number fault) s u
  Right m s (event.Abandon page fill (Ok frame)) u = Abandoned t k m s page.number fill frame u
  Right m s (event.Abandon page fill (Err fault)) u = Refused (abandon_refusals m page.number fill) (abandon_number fault) s u
  Right m s (event.Release address (Ok former)) u = Released t k m s (page_of address) former u
  Right m s (event.Release address (Err fault)) u = Refused (mapped_refusals m.pages (page_of address)) (release_number fault) s u
  Right m s (event.Protect address attributes (Ok former)) u = Protected t k m s (page_of address) attributes former u
  Right m s (event.Protect address attributes (Err fault)) u =
      Refused (protect_refusals m.pages (page_of address) attributes) (protect_number fault) s u
  Right m s (event.Touch address access (Ok touched)) u = Accessed t k m s address access touched u
  Right m s (event.Touch address access (Err touch.NotMapped)) u = Unmapped t k m s (page_of address) access u
  Right m s (event.Touch address access (Err touch.Denied)) u = Denied t k m s (page_of address) access u
  Right m s (event.Touch address access (Err touch.BadAccess)) u =
      Refused (touch_refusals m.pages (page_of address) access) (touch_number touch.BadAccess) s u
  Right m s (event.Walk address (Ok walked)) u = WalkedTo t k m s (page_of address) walked u
  Right m s (event.Walk address (Err fault)) u = Refused (mapped_refusals m.pages (page_of address)) not_mapped_number s u
  Right m s (event.Census counts) u = Counted t k m s counts u

  -- what holds of a space at any time
  pub record Sound (m : PageMap) (s : State A B) : Type 0 where
    pub coherent : Coherent t m.pages s.tlb
    -- each frame of the map is out, and at one place
    pub is_out : (frame page : ℕ) → frame_at m page ≡ Some frame → k.out s.frames frame ≡ true
    pub once : (frame page other : ℕ) → frame_at m page ≡ Some frame → frame_at m other ≡ Some frame → page ≡ other
    -- a page that waits is not mapped
    pub waits : (fill : Underway) (page : ℕ) → m.fills page ≡ Some fill → m.pages page ≡ None

-- which frames are out: those that were out in the allocator at the start, and those that the map has
pub record Accounted {B : Type 0} (k : FramesMeaning B) (start : B) (m : PageMap) (b : B) : Type 0 where
  pub stock_stays : k.stock b ≡ k.stock start
  -- a frame is out only if it was at the start or the map has it
  pub came : (frame : ℕ) → k.out b frame ≡ true → (k.out start frame ≡ true) ⊎ ((page : ℕ) × (frame_at m page ≡ Some frame))
  pub stays : (frame : ℕ) → k.out start frame ≡ true → k.out b frame ≡ true
  -- no frame that was out at the start is one of the map's
  pub own : (frame page : ℕ) → frame_at m page ≡ Some frame → k.out start frame ≡ false
