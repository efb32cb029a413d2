-- The page map of a space, and what its calls do by it. Throughout, s is the space before the call and u the space after it.
use Rattle.std.specs.Prelude.{◌≡◌, ℕ, Ok, Err, None, Result, MatchResult, IfErr}
use Rattle.words.specs.declared.translation.Translation.{Translation}
use Rattle.words.specs.Layout.{page_of}
use Rattle.tlb.specs.declared.tlb.Tlb as tlb
use Rattle.frames.specs.declared.allocator.FrameAllocator as allocator
use Rattle.table.specs.declared.fault.NotMapped.{NotMapped}
use Rattle.table.specs.declared.fault.ProtectFault.{ProtectFault}
use Rattle.table.specs.Table.{mapping}
use Rattle.law.specs.declared.calls.Event.{Event}
use Rattle.law.specs.declared.calls.Event.TheVariants as event
use Rattle.law.specs.declared.calls.Mark.{Mark}
use Rattle.law.specs.declared.calls.Touched.{Touched}
use Rattle.law.specs.declared.fault.AbandonFault.{AbandonFault}
use Rattle.law.specs.declared.fault.BeginFault.{BeginFault}
use Rattle.law.specs.declared.fault.BeginFault.TheVariants as begin
use Rattle.law.specs.declared.fault.ReleaseFault.{ReleaseFault}
use Rattle.law.specs.declared.fault.TouchFault.{TouchFault}
use Rattle.law.specs.declared.fault.TouchFault.TheVariants as touch
use Rattle.law.specs.PageMap.{PageMap, next}
use Rattle.law.specs.Law.{State, LookedUp, ProbedInVain, Right, Accounted}
use Rattle.space.specs.declared.fill.Fill.{Fill}
use Rattle.space.specs.declared.fill.Unsettled.{Unsettled}
use Rattle.space.specs.declared.space.Space.{Space}
use Rattle.space.specs.Kept.{kept_map, state}

module _ {A B : Type 0} {t : tlb.Ghosts A} {k : allocator.Ghosts B} where
  abbrev pub tlb_of : Space A B t k → A
  tlb_of s = s.tlb

  abbrev pub frames_of : Space A B t k → B
  frames_of s = s.frames

  -- what the law sees of a space besides its map
  abbrev pub seen : Space A B t k → State A B
  seen s = state s.tlb s.frames

  -- the map that a space keeps
  abbrev pub page_map : Space A B t k → PageMap
  page_map s = kept_map s.table s.fills

  -- the event is right by the map before, the map after it is the next one, and frames that were accounted for from some start still are
  pub record Lawful (s : Space A B t k) (e : Event) (u : Space A B t k) : Type 0 where
    pub right : Right t.meaning k.meaning (page_map s) (seen s) e (seen u)
    pub becomes : page_map u ≡ next (page_map s) e
    pub accounts : (start : B) → Accounted k.meaning start (page_map s) s.frames → Accounted k.meaning start (page_map u) u.frames

  -- each part is just as it was
  pub record Unchanged (s u : Space A B t k) : Type 0 where
    pub same_table : u.table ≡ s.table
    pub same_fills : u.fills ≡ s.fills
    pub same_tlb : u.tlb ≡ s.tlb
    pub same_frames : u.frames ≡ s.frames

  -- each part but the TLB is
  abbrev pub OnlyTlb : Space A B t k → Space A B t k → Type 0
  OnlyTlb s u = (u.table ≡ s.table) × (u.fills ≡ s.fills) × (u.frames ≡ s.frames)

  -- which parts a call leaves just as they were: a refusal leaves them all, but that an allocator that has no frame was asked, and that a touch
  -- may have asked the TLB
  abbrev pub BeginLeaves : Space A B t k → ℕ → Result Fill BeginFault → Space A B t k → Type 0
  BeginLeaves s address (Ok fill) u = (fill.page.number ≡ page_of address) × (u.table ≡ s.table) × (u.tlb ≡ s.tlb)
  BeginLeaves s address (Err begin.NoFrame) u = (u.table ≡ s.table) × (u.fills ≡ s.fills) × (u.tlb ≡ s.tlb)
  BeginLeaves s address (Err fault) u = Unchanged s u

  abbrev pub SettleLeaves : {E : Type 0} → Space A B t k → Result ℕ E → Space A B t k → Type 0
  SettleLeaves s r u = MatchResult r (λ _. (u.tlb ≡ s.tlb) × (u.frames ≡ s.frames)) (λ _. Unchanged s u)

  abbrev pub AbandonLeaves : Space A B t k → Result ℕ AbandonFault → Space A B t k → Type 0
  AbandonLeaves s r u = MatchResult r (λ _. (u.table ≡ s.table) × (u.tlb ≡ s.tlb)) (λ _. Unchanged s u)

  abbrev pub ReleaseLeaves : Space A B t k → Result Translation ReleaseFault → Space A B t k → Type 0
  ReleaseLeaves s r u = MatchResult r (λ _. u.fills ≡ s.fills) (λ _. Unchanged s u)

  abbrev pub ProtectLeaves : Space A B t k → Result ℕ ProtectFault → Space A B t k → Type 0
  ProtectLeaves s r u = MatchResult r (λ _. (u.fills ≡ s.fills) × (u.frames ≡ s.frames)) (λ _. Unchanged s u)

  abbrev pub TouchLeaves : Space A B t k → Result Touched TouchFault → Space A B t k → Type 0
  TouchLeaves s (Err touch.BadAccess) u = Unchanged s u
  TouchLeaves s other u = OnlyTlb s u

  -- the page was found with the mark, or it is mapped nowhere
  abbrev pub Resolves : Space A B t k → ℕ → Result (Translation × Mark) NotMapped → Space A B t k → Type 0
  Resolves s page r u = OnlyTlb s u
      × MatchResult r
      (λ x. LookedUp t.meaning (mapping s.table) x.1 s.tlb page x.0 u.tlb)
      (λ _. (mapping s.table page ≡ None) × ProbedInVain t.meaning s.tlb page u.tlb)

-- the events of the calls that answer or take a fill
abbrev pub begun : ℕ → Result Fill BeginFault → Event
begun address (Ok fill) = event.Begin address (Ok fill.underway.frame)
begun address (Err fault) = event.Begin address (Err fault)

abbrev pub settled : Fill → ℕ → Result ℕ Unsettled → Event
settled fill attributes (Ok frame) = event.Settle fill.page fill.underway attributes (Ok frame)
settled fill attributes (Err u) = event.Settle fill.page fill.underway attributes (Err u.fault)

abbrev pub abandoned : Fill → Result ℕ AbandonFault → Event
abandoned fill r = event.Abandon fill.page fill.underway r

-- a fill that is not settled comes back
abbrev pub FillBack : Fill → Result ℕ Unsettled → Type 0
FillBack fill r = IfErr r (λ u. u.fill ≡ fill)
