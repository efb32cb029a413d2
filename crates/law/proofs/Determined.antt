-- Two right answers to one call are the same, and leave the same map, but for what the law leaves open.
use Rattle.std.proofs.Common.{◌≡◌, ℕ, ◌+◌, ◌*◌, ◌%◌, Bool, true, false, cond, eqb, Some, Result, Ok, Err, MatchBool, List, [], ◌∷◌, sym, refl, ap, ap₂, ◌∙◌, subst}
use Rattle.std.proofs.lemmas.Bool.{eqb-true}
use Rattle.std.proofs.lemmas.Option.{none-some, same_Some}
use Rattle.words.specs.declared.address.Page.{Page}
use Rattle.words.specs.declared.translation.Translation.{Translation}
use Rattle.words.specs.declared.word.Word.{Word}
use Rattle.words.specs.Layout.{page_of}
use Rattle.words.specs.Points.{at}
use Rattle.words.specs.Refusals.{First, Accepted}
use Rattle.words.specs.Blocks.{StandsFor}
use Rattle.words.specs.Words.{form_of, bits_of}
use Rattle.words.proofs.WordLaws.{one_word, same_word}
use Rattle.blocks.specs.declared.blocks.Walked.{Walked}
use Rattle.blocks.proofs.Counted.{exactly_one}
use Rattle.tlb.specs.Meaning.{TlbMeaning}
use Rattle.frames.specs.Meaning.{FramesMeaning}
use Rattle.fills.specs.declared.underway.Underway.{Underway}
use Rattle.table.specs.declared.fault.NotMapped.{NotMapped}
use Rattle.table.specs.declared.fault.ProtectFault.{ProtectFault}
use Rattle.table.specs.declared.fault.ProtectFault.TheVariants as protect
use Rattle.table.specs.Faults.{protect_number, not_mapped_number}
use Rattle.table.specs.Calls.{mapped_refusals, protect_refusals}
use Rattle.law.specs.declared.calls.Mark.{Mark}
use Rattle.law.specs.declared.calls.Mark.TheVariants.{Hit, Missed}
use Rattle.law.specs.declared.calls.Touched.{Touched}
use Rattle.law.specs.declared.calls.Census.{Census}
use Rattle.law.specs.declared.calls.Call.{Call}
use Rattle.law.specs.declared.calls.Call.TheVariants as call
use Rattle.law.specs.declared.calls.Event.{Event}
use Rattle.law.specs.declared.calls.Event.TheVariants as event
use Rattle.law.specs.declared.fault.BeginFault.{BeginFault}
use Rattle.law.specs.declared.fault.BeginFault.TheVariants as begin
use Rattle.law.specs.declared.fault.SettleFault.{SettleFault}
use Rattle.law.specs.declared.fault.SettleFault.TheVariants as settle
use Rattle.law.specs.declared.fault.AbandonFault.{AbandonFault}
use Rattle.law.specs.declared.fault.AbandonFault.TheVariants as abandon
use Rattle.law.specs.declared.fault.ReleaseFault.{ReleaseFault}
use Rattle.law.specs.declared.fault.ReleaseFault.TheVariants as release
use Rattle.law.specs.declared.fault.TouchFault.{TouchFault}
use Rattle.law.specs.declared.fault.TouchFault.TheVariants as touch
use Rattle.law.specs.Faults.{begin_number, settle_number, abandon_number, release_number, touch_number}
use Rattle.law.specs.Calls.{call_of}
use Rattle.law.specs.PageMap.{PageMap, next}
use Rattle.law.specs.Refusals.{begin_refusals, settle_refusals, abandon_refusals, touch_refusals}
use Rattle.law.specs.Law.{State, Marked, Right, Counted}
use Rattle.law.specs.Determined.{fixed, taken_frame, SameButFree, OneRightAnswer}

first_step : (b c : Bool) (X Y Z : Type 0) (n k r : ℕ) → (b ≡ true → n ≡ r) → (c ≡ true → k ≡ r) → (Y → Z → n ≡ k) → MatchBool b X ((X → ⊥) × Y) → MatchBool c X ((X → ⊥) × Z) → n ≡ k
first_step true true X Y Z n k r e f g x y = e refl ∙ sym (f refl)
first_step true false X Y Z n k r e f g x y = absurd (y.0 x)
first_step false true X Y Z n k r e f g x y = absurd (x.0 y)
first_step false false X Y Z n k r e f g x y = g x.1 y.1

-- at most one refusal is the first
first_once : (rs : List (Type 0 × ℕ)) (n k : ℕ) → First rs n → First rs k → n ≡ k
first_once [] n k x y = absurd x
first_once (r ∷ rs) n k x y = first_step (eqb n r.1) (eqb k r.1) r.0 (First rs n) (First rs k) n k r.1 (eqb-true n r.1) (eqb-true k r.1) (first_once rs n k) x y

refuse_step : (b : Bool) (X Y : Type 0) → (X → ⊥) → (Y → ⊥) → MatchBool b X ((X → ⊥) × Y) → ⊥
refuse_step true X Y f g x = f x
refuse_step false X Y f g x = g x.1

-- what is accepted is not refused
not_both : (rs : List (Type 0 × ℕ)) (n : ℕ) → Accepted rs → First rs n → ⊥
not_both [] n a x = x
not_both (r ∷ rs) n a x = refuse_step (eqb n r.1) r.0 (First rs n) a.0 (not_both rs n a.1) x

-- accepted, and the answer has the property P; or the fault is the first refusal's
abbrev Right_for : {T E : Type 0} → List (Type 0 × ℕ) → (E → ℕ) → (T → Type 0) → Result T E → Type 0
Right_for rs number P (Ok x) = Accepted rs × P x
Right_for rs number P (Err e) = First rs (number e)

-- as a record, which names its list, numbers and property
record Answer {T E : Type 0} (rs : List (Type 0 × ℕ)) (number : E → ℕ) (P : T → Type 0) (r : Result T E) : Type 0 where
  is : Right_for rs number P r

-- each fault has a number of its own
abbrev Apart : {E : Type 0} → (E → ℕ) → Type 0
Apart {E} number = (e d : E) → number e ≡ number d → e ≡ d

apart_by : {E : Type 0} (number : E → ℕ) (back : ℕ → E) → ((e : E) → back (number e) ≡ e) → Apart number
apart_by number back undo e d i = sym (undo e) ∙ ap back i ∙ undo d

begin_fault : ℕ → BeginFault
begin_fault n = cond (eqb n 1) begin.Mapped (cond (eqb n 2) begin.Waiting (cond (eqb n 3) begin.TooMany begin.NoFrame))

begin_undo : (e : BeginFault) → begin_fault (begin_number e) ≡ e
unfolding begin_fault
begin_undo begin.Mapped = refl
begin_undo begin.Waiting = refl
begin_undo begin.TooMany = refl
begin_undo begin.NoFrame = refl

begin_apart : Apart begin_number
begin_apart = apart_by begin_number begin_fault begin_undo

settle_fault : ℕ → SettleFault
settle_fault n = cond (eqb n 5) settle.BadAttributes (cond (eqb n 6) settle.NoFill (cond (eqb n 7) settle.NoNode settle.NoRow))

settle_undo : (e : SettleFault) → settle_fault (settle_number e) ≡ e
unfolding settle_fault
settle_undo settle.BadAttributes = refl
settle_undo settle.NoFill = refl
settle_undo settle.NoNode = refl
settle_undo settle.NoRow = refl

settle_apart : Apart settle_number
settle_apart = apart_by settle_number settle_fault settle_undo

abandon_apart : Apart abandon_number
abandon_apart abandon.NoFill abandon.NoFill i = refl

release_apart : Apart release_number
release_apart release.NotMapped release.NotMapped i = refl

protect_fault : ℕ → ProtectFault
protect_fault n = cond (eqb n 5) protect.BadAttributes (cond (eqb n 9) protect.NotMapped protect.NoRow)

protect_undo : (e : ProtectFault) → protect_fault (protect_number e) ≡ e
unfolding protect_fault
protect_undo protect.BadAttributes = refl
protect_undo protect.NotMapped = refl
protect_undo protect.NoRow = refl

protect_apart : Apart protect_number
protect_apart = apart_by protect_number protect_fault protect_undo

touch_fault : ℕ → TouchFault
touch_fault n = cond (eqb n 10) touch.BadAccess (cond (eqb n 9) touch.NotMapped touch.Denied)

touch_undo : (e : TouchFault) → touch_fault (touch_number e) ≡ e
unfolding touch_fault
touch_undo touch.BadAccess = refl
touch_undo touch.NotMapped = refl
touch_undo touch.Denied = refl

touch_apart : Apart touch_number
touch_apart = apart_by touch_number touch_fault touch_undo

-- two answers to one call: both accepted, with a fact of the two; or both refused, by one fault
module _ {T E : Type 0} (rs : List (Type 0 × ℕ)) (number : E → ℕ) (P : T → Type 0) (apart : Apart number) (Q : Result T E → Result T E → Type 0) where
  both : ((x y : T) → P x → P y → Q (Ok x) (Ok y)) → ((e : E) → Q (Err e) (Err e)) → (r q : Result T E) → Answer rs number P r → Answer rs number P q → Q r q
  both f g (Ok x) (Ok y) a b = f x y a.is.1 b.is.1
  both f g (Ok x) (Err e) a b = absurd (not_both rs (number e) a.is.0 b.is)
  both f g (Err e) (Ok x) a b = absurd (not_both rs (number e) b.is.0 a.is)
  both f g (Err e) (Err d) a b = subst (λ c. Q (Err e) (Err c)) (apart e d (first_once rs (number e) (number d) a.is b.is)) (g e)

-- which frames are out after an event
abbrev out_next : (ℕ → Bool) → Event → ℕ → Bool
out_next out (event.Begin a (Ok f)) = at out f true
out_next out (event.Abandon p fill (Ok f)) = at out fill.frame false
out_next out (event.Release a (Ok x)) = at out x.frame false
out_next out other = out

module _ {A B : Type 0} (t : TlbMeaning A) (k : FramesMeaning B) (m : PageMap) (s u : State A B) where
  -- a right event leaves the stock, and just these frames out
  pub record Frames (e : Event) : Type 0 where
    pub out : k.out u.frames ≡ out_next (k.out s.frames) e
    pub stock : k.stock u.frames ≡ k.stock s.frames

  same_state : (e : Event) → out_next (k.out s.frames) e ≡ k.out s.frames → u.frames ≡ s.frames → Frames e
  same_state e none i = record { out = ap k.out i ∙ sym none; stock = ap k.stock i }

  frames_after : (e : Event) → Right t k m s e u → Frames e
  frames_after (event.Begin a (Ok f)) r = record { out = r.allocated.takes.3; stock = r.allocated.stock_stays }
  frames_after (event.Begin a (Err begin.Mapped)) r = same_state _ refl (ap (λ v. v.frames) r.same)
  frames_after (event.Begin a (Err begin.Waiting)) r = same_state _ refl (ap (λ v. v.frames) r.same)
  frames_after (event.Begin a (Err begin.TooMany)) r = same_state _ refl (ap (λ v. v.frames) r.same)
  frames_after (event.Begin a (Err begin.NoFrame)) r = record { out = r.allocated.takes.1; stock = r.allocated.stock_stays }
  frames_after (event.Settle p fill x (Ok g)) r = same_state _ refl (ap (λ v. v.frames) r.same)
  frames_after (event.Settle p fill x (Err e)) r = same_state _ refl (ap (λ v. v.frames) r.same)
  frames_after (event.Abandon p fill (Ok g)) r = record { out = r.freed.gives.1; stock = r.freed.stock_stays }
  frames_after (event.Abandon p fill (Err e)) r = same_state _ refl (ap (λ v. v.frames) r.same)
  frames_after (event.Release a (Ok x)) r = record { out = r.freed.gives.1; stock = r.freed.stock_stays }
  frames_after (event.Release a (Err e)) r = same_state _ refl (ap (λ v. v.frames) r.same)
  frames_after (event.Protect a x (Ok y)) r = same_state _ refl r.same_frames
  frames_after (event.Protect a x (Err e)) r = same_state _ refl (ap (λ v. v.frames) r.same)
  frames_after (event.Touch a x (Ok y)) r = same_state _ refl r.same_frames
  frames_after (event.Touch a x (Err touch.BadAccess)) r = same_state _ refl (ap (λ v. v.frames) r.same)
  frames_after (event.Touch a x (Err touch.NotMapped)) r = same_state _ refl r.same_frames
  frames_after (event.Touch a x (Err touch.Denied)) r = same_state _ refl r.same_frames
  frames_after (event.Walk a (Ok w)) r = same_state _ refl (ap (λ v. v.frames) r.same)
  frames_after (event.Walk a (Err e)) r = same_state _ refl (ap (λ v. v.frames) r.same)
  frames_after (event.Census c) r = same_state _ refl (ap (λ v. v.frames) r.same)

-- the answers alone
record SameAnswer (m : PageMap) (out : ℕ → Bool) (e f : Event) : Type 0 where
  answer : fixed e ≡ fixed f
  pages : (next m e).pages ≡ (next m f).pages
  fills : taken_frame e ≡ taken_frame f → (next m e).fills ≡ (next m f).fills
  outs : taken_frame e ≡ taken_frame f → out_next out e ≡ out_next out f

-- equal answers are one event
same_event : (m : PageMap) (out : ℕ → Bool) (e f : Event) → e ≡ f → SameAnswer m out e f
same_event m out e f i = record {
  answer = ap fixed i;
  pages = ap (λ x. (next m x).pages) i;
  fills = λ _. ap (λ x. (next m x).fills) i;
  outs = λ _. ap (out_next out) i;
}

module _ {A B : Type 0} (t : TlbMeaning A) (k : FramesMeaning B) (m : PageMap) (s : State A B) where
  one_mark : (g h : Mark) (p : ℕ) → Marked t g s.tlb p → Marked t h s.tlb p → g ≡ h
  one_mark Hit Hit p x y = refl
  one_mark Hit Missed p (x, i) y = absurd (y x i)
  one_mark Missed Hit p x (y, i) = absurd (x y i)
  one_mark Missed Missed p x y = refl

  -- what the law says of each answer, whatever the state after it
  begun : (a : ℕ) (u : State A B) (r : Result ℕ BeginFault) → Right t k m s (event.Begin a r) u → Answer (begin_refusals k.stock k.out m s.frames (page_of a)) begin_number (λ f. Unit {0}) r
  begun a u (Ok f) x = record { is = (x.accepted, tt) }
  begun a u (Err begin.Mapped) x = record { is = x.first }
  begun a u (Err begin.Waiting) x = record { is = x.first }
  begun a u (Err begin.TooMany) x = record { is = x.first }
  begun a u (Err begin.NoFrame) x = record { is = x.first }

  settled : (p : Page) (f : Underway) (x : ℕ) (u : State A B) (r : Result ℕ SettleFault) → Right t k m s (event.Settle p f x r) u → Answer (settle_refusals m p.number f x) settle_number (λ g. g ≡ f.frame) r
  settled p f x u (Ok g) y = record { is = (y.accepted, y.answered) }
  settled p f x u (Err e) y = record { is = y.first }

  abandoned : (p : Page) (f : Underway) (u : State A B) (r : Result ℕ AbandonFault) → Right t k m s (event.Abandon p f r) u → Answer (abandon_refusals m p.number f) abandon_number (λ g. g ≡ f.frame) r
  abandoned p f u (Ok g) x = record { is = ((λ n. n x.waited, tt), x.answered) }
  abandoned p f u (Err e) x = record { is = x.first }

  released : (a : ℕ) (u : State A B) (r : Result Translation ReleaseFault) → Right t k m s (event.Release a r) u → Answer (mapped_refusals m.pages (page_of a)) release_number (λ x. m.pages (page_of a) ≡ Some x) r
  released a u (Ok x) q = record { is = ((λ n. none-some x (sym n ∙ q.here), tt), q.here) }
  released a u (Err e) q = record { is = q.first }

  protected : (a x : ℕ) (u : State A B) (r : Result ℕ ProtectFault) → Right t k m s (event.Protect a x r) u
      → Answer (protect_refusals m.pages (page_of a) x) protect_number (λ y. (z : Translation) × (m.pages (page_of a) ≡ Some z) × (y ≡ z.attributes)) r
  protected a x u (Ok y) q = record { is = (q.accepted, (q.former, q.here, q.answered)) }
  protected a x u (Err e) q = record { is = q.first }

  touched : (a x : ℕ) (u : State A B) (r : Result Touched TouchFault) → Right t k m s (event.Touch a x r) u
      → Answer (touch_refusals m.pages (page_of a) x) touch_number
      (λ d. (z : Translation) × (m.pages (page_of a) ≡ Some z) × (d.physical ≡ z.frame * 4096 + a % 4096) × Marked t d.mark s.tlb (page_of a)) r
  touched a x u (Ok d) q = record { is = (q.accepted, (q.found, q.looked_up.here, q.answered, q.looked_up.marked)) }
  touched a x u (Err touch.BadAccess) q = record { is = q.first }
  touched a x u (Err touch.NotMapped) q = record { is = q.first }
  touched a x u (Err touch.Denied) q = record { is = q.first }

  walked : (a : ℕ) (u : State A B) (r : Result Walked NotMapped) → Right t k m s (event.Walk a r) u
      → Answer (mapped_refusals m.pages (page_of a)) (λ _. not_mapped_number) (λ w. StandsFor m.pages (page_of a) (form_of w.word) (bits_of w.word)) r
  walked a u (Ok w) x = let (z, e) = x.walks.mapped in record { is = ((λ n. none-some z (sym n ∙ e), tt), x.walks.word) }
  walked a u (Err e) x = record { is = x.first }

  same_words : (p : ℕ) (w v : Word) → StandsFor m.pages p (form_of w) (bits_of w) → StandsFor m.pages p (form_of v) (bits_of v) → w ≡ v
  same_words p w v x y = let (i, j) = one_word m.pages p (form_of w) (form_of v) (bits_of w) (bits_of v) x y in same_word w v i j

  counted : (u v : State A B) (c d : Census) → Counted t k m s c u → Counted t k m s d v → c ≡ d
  counted u v c d x y =
      let nodes = exactly_one c.nodes d.nodes _ _ x.table.nodes_used y.table.nodes_used in
      let rows = exactly_one c.rows d.rows _ _ x.table.rows_used y.table.rows_used in
      let pages = exactly_one c.pages d.pages _ _ x.table.pages_mapped y.table.pages_mapped in
      let fills = exactly_one c.fills d.fills _ _ x.waiting y.waiting in
      ap₂ (λ a b. record { nodes = a; rows = b; pages = c.pages; fills = c.fills }) nodes rows ∙ ap₂ (λ a b. record { nodes = d.nodes; rows = d.rows; pages = a; fills = b }) pages fills

  -- the answers of a call
  abbrev AnswerTo : Call → Type 0
  AnswerTo (call.Begin a) = Result ℕ BeginFault
  AnswerTo (call.Settle p f x) = Result ℕ SettleFault
  AnswerTo (call.Abandon p f) = Result ℕ AbandonFault
  AnswerTo (call.Release a) = Result Translation ReleaseFault
  AnswerTo (call.Protect a x) = Result ℕ ProtectFault
  AnswerTo (call.Touch a x) = Result Touched TouchFault
  AnswerTo (call.Walk a) = Result Walked NotMapped
  AnswerTo call.Census = Census

  abbrev with_answer : (c : Call) → AnswerTo c → Event
  with_answer (call.Begin a) r = event.Begin a r
  with_answer (call.Settle p f x) r = event.Settle p f x r
  with_answer (call.Abandon p f) r = event.Abandon p f r
  with_answer (call.Release a) r = event.Release a r
  with_answer (call.Protect a x) r = event.Protect a x r
  with_answer (call.Touch a x) r = event.Touch a x r
  with_answer (call.Walk a) r = event.Walk a r
  with_answer call.Census r = event.Census r

  parted : (e : Event) → (r : AnswerTo (call_of e)) × (e ≡ with_answer (call_of e) r)
  parted (event.Begin a r) = (r, refl)
  parted (event.Settle p f x r) = (r, refl)
  parted (event.Abandon p f r) = (r, refl)
  parted (event.Release a r) = (r, refl)
  parted (event.Protect a x r) = (r, refl)
  parted (event.Touch a x r) = (r, refl)
  parted (event.Walk a r) = (r, refl)
  parted (event.Census r) = (r, refl)

  module _ (u v : State A B) where
    of_call : (c : Call) (r q : AnswerTo c) → Right t k m s (with_answer c r) u → Right t k m s (with_answer c q) v → SameAnswer m (k.out s.frames) (with_answer c r) (with_answer c q)
    of_call (call.Begin a) r q x y = both _ begin_number _ begin_apart (λ r q. SameAnswer m (k.out s.frames) (event.Begin a r) (event.Begin a q))
        (λ f g i j. record {
          answer = refl;
          pages = refl;
          fills = λ e. ap (λ z. (next m (event.Begin a (Ok z))).fills) (same_Some f g e);
          outs = λ e. ap (λ z. at (k.out s.frames) z true) (same_Some f g e);
        }) (λ e. same_event m (k.out s.frames) _ _ refl) r q (begun a u r x) (begun a v q y)
    of_call (call.Settle p f x) r q y z = both _ settle_number _ settle_apart (λ r q. SameAnswer m (k.out s.frames) (event.Settle p f x r) (event.Settle p f x q))
        (λ g h i j. same_event m (k.out s.frames) _ _ (ap (λ z. event.Settle p f x (Ok z)) (i ∙ sym j))) (λ e. same_event m (k.out s.frames) _ _ refl) r q (settled p f x u r y) (settled p f x v q z)
    of_call (call.Abandon p f) r q y z = both _ abandon_number _ abandon_apart (λ r q. SameAnswer m (k.out s.frames) (event.Abandon p f r) (event.Abandon p f q))
        (λ g h i j. same_event m (k.out s.frames) _ _ (ap (λ z. event.Abandon p f (Ok z)) (i ∙ sym j))) (λ e. same_event m (k.out s.frames) _ _ refl) r q (abandoned p f u r y) (abandoned p f v q z)
    of_call (call.Release a) r q y z = both _ release_number _ release_apart (λ r q. SameAnswer m (k.out s.frames) (event.Release a r) (event.Release a q))
        (λ g h i j. same_event m (k.out s.frames) _ _ (ap (λ z. event.Release a (Ok z)) (same_Some g h (sym i ∙ j)))) (λ e. same_event m (k.out s.frames) _ _ refl) r q (released a u r y) (released a v q z)
    of_call (call.Protect a x) r q y z = both _ protect_number _ protect_apart (λ r q. SameAnswer m (k.out s.frames) (event.Protect a x r) (event.Protect a x q))
        (λ g h (c, i, e) (d, j, f). same_event m (k.out s.frames) _ _ (ap (λ z. event.Protect a x (Ok z)) (e ∙ ap (λ (z : Translation). z.attributes) (same_Some c d (sym i ∙ j)) ∙ sym f))) (λ e. same_event m (k.out s.frames) _ _ refl) r q (protected a x u r y) (protected a x v q z)
    of_call (call.Touch a x) r q y z = both _ touch_number _ touch_apart (λ r q. SameAnswer m (k.out s.frames) (event.Touch a x r) (event.Touch a x q))
        (λ g h (c, i, e, w) (d, j, f, n).
        same_event m (k.out s.frames) _ _ (ap₂ (λ b l. event.Touch a x (Ok (record { physical = b; mark = l })))
        (e ∙ ap (λ (z : Translation). z.frame * 4096 + a % 4096) (same_Some c d (sym i ∙ j)) ∙ sym f) (one_mark g.mark h.mark (page_of a) w n))) (λ e. same_event m (k.out s.frames) _ _ refl) r q (touched a x u r y) (touched a x v q z)
    of_call (call.Walk a) r q y z = both _ (λ _. not_mapped_number) _ (λ e d i. refl) (λ r q. SameAnswer m (k.out s.frames) (event.Walk a r) (event.Walk a q))
        (λ g h i j. record { answer = ap (λ w. event.Walk a (Ok (record { word = w; looked = 0 }))) (same_words (page_of a) g.word h.word i j); pages = refl; fills = λ e. refl; outs = λ e. refl }) (λ e. same_event m (k.out s.frames) _ _ refl)
        r q (walked a u r y) (walked a v q z)
    of_call call.Census r q y z = same_event m (k.out s.frames) _ _ (ap event.Census (counted u v r q y z))

    of_calls : (c d : Call) → c ≡ d → (r : AnswerTo c) (q : AnswerTo d) → Right t k m s (with_answer c r) u → Right t k m s (with_answer d q) v → SameAnswer m (k.out s.frames) (with_answer c r) (with_answer d q)
    of_calls c d same r = subst (λ d. (q : AnswerTo d) → Right t k m s (with_answer c r) u → Right t k m s (with_answer d q) v → SameAnswer m (k.out s.frames) (with_answer c r) (with_answer d q)) same (λ q. of_call c r q)

    answers : (e f : Event) → call_of e ≡ call_of f → Right t k m s e u → Right t k m s f v → SameAnswer m (k.out s.frames) e f
    answers e f same x y =
        let (r, i) = parted e in
        let (q, j) = parted f in
        subst (λ g. SameAnswer m (k.out s.frames) g f) (sym i) (subst (λ g. SameAnswer m (k.out s.frames) (with_answer (call_of e) r) g) (sym j)
        (of_calls (call_of e) (call_of f) same r q (subst (λ g. Right t k m s g u) i x) (subst (λ g. Right t k m s g v) j y)))

    of_events : (e f : Event) → call_of e ≡ call_of f → Right t k m s e u → Right t k m s f v → SameButFree k m e f u v
    of_events e f same x y =
        let a = answers e f same x y in
        let b = frames_after t k m s u e x in
        let c = frames_after t k m s v f y in
        record {
          answer = a.answer;
          pages = a.pages;
          fills = a.fills;
          out = λ taken. b.out ∙ a.outs taken ∙ sym c.out;
          stock = b.stock ∙ sym c.stock;
        }

pub one_right_answer : {A B : Type 0} (t : TlbMeaning A) (k : FramesMeaning B) → OneRightAnswer t k
one_right_answer t k m s u v = of_events t k m s u v
