-- What came of a record, by the events that its calls were.
use Rattle.std.proofs.Common.{◌≡◌, ℕ, ◌^◌, ◌≤◌, List, [], ◌∷◌, length, eqb, refl, sym, ap, ◌∙◌, subst, arith}
use Rattle.std.proofs.lemmas.Bool.{cond-true, eq-eqb}
use Rattle.std.specs.Prelude.{Ok, Err, Some, Result, IsErr, IsErrAnd}
use Rattle.words.specs.declared.address.Page.{Page}
use Rattle.words.specs.Layout.{page_of}
use Rattle.tlb.specs.declared.tlb.Tlb as tlb
use Rattle.frames.specs.declared.allocator.FrameAllocator as allocator
use Rattle.fills.specs.declared.underway.Underway.{Underway}
use Rattle.fills.specs.Fills.{WaitingPages}
use Rattle.fills.proofs.Lists.{waiting_pages}
use Rattle.blocks.proofs.Counted.{exactly_one}
use Rattle.law.specs.declared.calls.Event.{Event}
use Rattle.law.specs.declared.calls.Event.TheVariants as event
use Rattle.law.specs.declared.fault.AbandonFault.{AbandonFault}
use Rattle.law.specs.declared.fault.AbandonFault.TheVariants.{NoFill}
use Rattle.law.specs.declared.fault.SettleFault.{SettleFault}
use Rattle.space.specs.declared.space.Space.{Space}
use Rattle.space.specs.declared.fill.Fill.{Fill}
use Rattle.space.specs.Space.{page_map, Lawful, abandoned}
use Rattle.trace_format.specs.declared.line.Line.{Line}
use Rattle.trace_format.specs.declared.record.Record.{Record}
use Rattle.player.specs.declared.fault.StepFault.{StepFault}
use Rattle.player.specs.Steps.{Asks, said, Leads, Steps, Answers}

module _ {A B : Type 0} {t : tlb.Ghosts A} {k : allocator.Ghosts B} where
  -- one call
  pub one : (s u : Space A B t k) (asked : Record) (e : Event) (l : Line) → Asks asked (e ∷ []) l → Lawful s e u → Steps s asked l u
  one s u asked e l asks d = record { events = e ∷ []; asks = asks; leads = (u, d, refl) }

  -- a fault that was carried up
  pub refused : (s u : Space A B t k) (asked : Record) (es : List Event) (f : StepFault) (r : Result Line StepFault) → IsErr r → IsErrAnd r (λ e. e ≡ f) → Asks asked es (said asked (Err f)) → Leads s es u
      → Answers s asked r u
  refused s u asked es f (Ok l) a h asks leads = absurd h
  refused s u asked es f (Err e) a h asks leads = record { events = es; asks = subst (λ x. Asks asked es (said asked (Err x))) (sym h) asks; leads = leads }

  -- a fill that was begun is under way
  pub under_way : (s u : Space A B t k) (address : ℕ) (page : Page) (fill : Underway) → page.number ≡ page_of address → Lawful s (event.Begin address (Ok fill.frame)) u → (page_map u).fills page.number ≡ Some fill
  under_way s u address page fill same d =
      ap (λ m. m.fills page.number) d.becomes ∙ cond-true (eqb page.number (page_of address)) _ _ (eq-eqb page.number (page_of address) same)

  -- and still is where its settle is refused
  pub still_under_way : (s u : Space A B t k) (page : Page) (fill : Underway) (attributes : ℕ) (f : SettleFault) → (page_map s).fills page.number ≡ Some fill → Lawful s (event.Settle page fill attributes (Err f)) u → (page_map u).fills page.number ≡ Some fill
  still_under_way s u page fill attributes f waits d = ap (λ m. m.fills page.number) d.becomes ∙ waits

  -- a fill that came back is abandoned
  pub of_fill : (s u : Space A B t k) (back fill : Fill) (r : Result ℕ AbandonFault) → back ≡ fill → Lawful s (abandoned back r) u → Lawful s (event.Abandon fill.page fill.underway r) u
  of_fill s u back fill r same d = subst (λ f. Lawful s (abandoned f r) u) same d

  -- one that is under way is not refused
  pub not_refused : (s u : Space A B t k) (page : Page) (fill : Underway) (f : AbandonFault) → (page_map s).fills page.number ≡ Some fill → Lawful s (event.Abandon page fill (Err f)) u → ⊥
  not_refused s u page fill NoFill waits d = d.right.first waits

  -- at most 32 pages wait
  pub few : (s : Space A B t k) (n : ℕ) → WaitingPages (page_map s).fills n → n ≤ 32
  few s n w =
      let ws = s.fills.waiting.items in
      let same : n ≡ length ws = exactly_one n (length ws) (2 ^ 52) _ w (waiting_pages ws (length ws) s.fills.once refl) in
      let most : length ws ≤ 32 = s.fills.few in
      omega arith
