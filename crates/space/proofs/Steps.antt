-- One call: what the changes of its parts make of the map and of what holds.
use Rattle.std.proofs.Common.{◌≡◌, ◌≢◌, ℕ, ◌+◌, ◌*◌, ◌%◌, ◌^◌, ◌<◌, Bool, true, false, not, eqb, List, [], ◌∷◌, Some, None, Option, Ok, Err, Result, MatchResult, refl, sym, ap, ap₂, ◌∙◌, subst, arith}
use Rattle.std.specs.Result.{IsErr, IsErrAnd}
use Rattle.std.specs.Option.{option_eq, MatchOption}
use Rattle.std.proofs.lemmas.Bool.{both_ways, eqb-true, not-false}
use Rattle.words.specs.declared.access.Access.{Access}
use Rattle.words.specs.declared.access.Access.TheVariants.{Read, Write, Execute}
use Rattle.words.specs.declared.address.Page.{Page}
use Rattle.words.specs.declared.translation.Translation.{Translation}
use Rattle.words.specs.Access.{access_number, allowed}
use Rattle.words.specs.Layout.{page_of, block_of}
use Rattle.words.specs.Points.{at}
use Rattle.words.specs.Reading.{translation}
use Rattle.words.specs.Refusals.{First, Accepted}
use Rattle.words.specs.Words.{form_of, bits_of}
use Rattle.words.specs.Blocks.{Mapping, IsMapped, StandsFor}
use Rattle.words.proofs.Translations.{translation_is}
use Rattle.tlb.specs.declared.tlb.Tlb as tlb
use Rattle.tlb.specs.declared.entry.Entry.{Entry}
use Rattle.tlb.specs.Entries.{entry_says}
use Rattle.tlb.specs.Meaning.{TlbMeaning, Within, SamePairs, Answers, Takes as TlbTakes, Loads}
use Rattle.frames.specs.declared.allocator.FrameAllocator as allocator
use Rattle.frames.specs.declared.fault.AllocateFault.{AllocateFault}
use Rattle.frames.specs.declared.fault.AllocateFault.TheVariants.{AllOut}
use Rattle.frames.specs.declared.fault.FreeFault.{FreeFault}
use Rattle.frames.specs.declared.fault.FreeFault.TheVariants.{NotOut}
use Rattle.frames.specs.Meaning.{FramesMeaning, Takes, Gives}
use Rattle.blocks.specs.declared.blocks.Walked.{Walked}
use Rattle.blocks.specs.Blocks.{Walks, NodesOut, RowsOut}
use Rattle.fills.specs.declared.fault.AddFault.{AddFault}
use Rattle.fills.specs.declared.fault.AddFault.TheVariants as add
use Rattle.fills.specs.declared.underway.Underway.{Underway}
use Rattle.fills.specs.Faults.{add_number}
use Rattle.fills.specs.Fills.{Waits, underway, add_refusals}
use Rattle.table.specs.declared.fault.MapFault.{MapFault}
use Rattle.table.specs.declared.fault.MapFault.TheVariants as map
use Rattle.table.specs.declared.fault.NotMapped.{NotMapped}
use Rattle.table.specs.declared.fault.ProtectFault.{ProtectFault}
use Rattle.table.specs.Faults.{map_number, protect_number, not_mapped_number}
use Rattle.table.specs.Calls.{mapped, released, protected, map_refusals, mapped_refusals, protect_refusals}
use Rattle.law.specs.declared.calls.Event.{Event}
use Rattle.law.specs.declared.calls.Event.TheVariants as event
use Rattle.law.specs.declared.calls.Mark.{Mark}
use Rattle.law.specs.declared.calls.Mark.TheVariants.{Hit, Missed}
use Rattle.law.specs.declared.calls.Touched.{Touched}
use Rattle.law.specs.declared.fault.BeginFault.{BeginFault}
use Rattle.law.specs.declared.fault.BeginFault.TheVariants as begin
use Rattle.law.specs.declared.fault.SettleFault.{SettleFault}
use Rattle.law.specs.declared.fault.TouchFault.TheVariants as touch
use Rattle.law.specs.Faults.{settle_number, SettleFromMap}
use Rattle.law.specs.PageMap.{PageMap, next}
use Rattle.law.specs.Refusals.{BadAccess}
use Rattle.law.specs.Law.{State, Coherent, Freed, LookedUp, ProbedInVain, Purged, Right, Sound, Accounted}
use Rattle.law.proofs.Entries.{own_says}
use Rattle.law.proofs.Points.{some_none, same_some}
use Rattle.law.proofs.Steps.{stays}
use Rattle.space.specs.declared.fill.Fill.{Fill}
use Rattle.space.specs.declared.space.Space.{Space}
use Rattle.space.specs.Kept.{kept_map}
use Rattle.space.specs.Space.{seen, page_map, begun as begun_event, Lawful, OnlyTlb}

-- an error of which something is known
pub err_only : {T E : Type 0} (P : Result T E → Type 0) (G : E → Type 0) (r : Result T E) → IsErrAnd r G → ((e : E) → G e → P (Err e)) → P r
err_only P G (Ok x) a f = absurd a
err_only P G (Err e) a f = f e a

pub on_err : {T E : Type 0} (P : T → Type 0) (Q : E → Type 0) (r : Result T E) → IsErr r → ((e : E) → Q e) → MatchResult r P Q
on_err P Q (Ok x) a f = absurd (both_ways false refl a)
on_err P Q (Err e) a f = f e

-- an optional fill that was compared
pub found : (o : Option Underway) (f : Underway) (b : Bool) → b ≡ not (option_eq (λ x y. eqb x.frame y.frame) o (Some f)) → b ≡ false → o ≡ Some f
found (Some h) f b e n = ap (λ x. Some (underway x)) (eqb-true h.frame f.frame (not-false _ (sym e ∙ n)))
found None f b e n = absurd (both_ways _ n e)

-- what may be taken in is not refused
pub not_refused : (waits : Waits) (p : ℕ) (e : AddFault) → Accepted (add_refusals waits p) → First (add_refusals waits p) (add_number e) → ⊥
not_refused waits p add.Waiting (new, _) f = new f
not_refused waits p add.TooMany (new, (few, _)) (_, full) = few full

-- what the table refuses for want of room
abbrev room_refusals : Mapping → ℕ → Translation → List (Type 0 × ℕ)
room_refusals h p z = (NodesOut h (mapped h p z) (block_of p), 7) ∷ (RowsOut h (mapped h p z) (block_of p), 8) ∷ []

-- what the table refuses, settle refuses after two others; the page is not mapped
lacks : {X Y : Type 0} (e : MapFault) (g : SettleFault) (h : Mapping) (p : ℕ) (z : Translation) → h p ≡ None → (X → ⊥) → (Y → ⊥) → First (map_refusals h p z) (map_number e) → SettleFromMap e g
    → First ((X, 5) ∷ (Y, 6) ∷ room_refusals h p z) (settle_number g)
lacks map.Mapped g h p z none x y (w, i) s = absurd (some_none i none)
lacks map.NoNode g h p z none x y (_, out) s = rw s (x, (y, out))
lacks map.NoRow g h p z none x y (_, (nodes, rows)) s = rw s (x, (y, (nodes, rows)))

same_access : (a b : Access) → access_number a ≡ access_number b → a ≡ b
same_access Read Read e = refl
same_access Read Write e = absurd (omega arith)
same_access Read Execute e = absurd (omega arith)
same_access Write Read e = absurd (omega arith)
same_access Write Write e = refl
same_access Write Execute e = absurd (omega arith)
same_access Execute Read e = absurd (omega arith)
same_access Execute Write e = absurd (omega arith)
same_access Execute Execute e = refl

module _ {A B : Type 0} (t : TlbMeaning A) (k : FramesMeaning B) where
  -- a call led from the map m and the state s to the map n and the state u, and its event is right
  pub record Did (m n : PageMap) (s u : State A B) (e : Event) : Type 0 where
    pub right : Right t k m s e u
    pub becomes : n ≡ next m e

  -- each frame that is out is a frame of the machine
  abbrev pub Small : Type 0
  Small = (b : B) (f : ℕ) → k.out b f ≡ true → f < 2 ^ 28

  pub sound_after : (m n : PageMap) (s u : State A B) (e : Event) → Small → Sound t k m s → Did m n s u e → Sound t k n u
  sound_after m n s u e small d x = subst (λ v. Sound t k v u) (sym x.becomes) (stays t k small m s u e d x.right).0

  pub begin_mapped : (h : Mapping) (l : Waits) (s u : State A B) (a p : ℕ) → p ≡ page_of a → IsMapped h p → u ≡ s → Did (record { pages = h; fills = l }) (record { pages = h; fills = l }) s u (event.Begin a (Err begin.Mapped))
  begin_mapped h l s u a p page here same = record { right = rw (sym page) (record { first = here; same = same }); becomes = refl }

  pub begin_frameless : (h : Mapping) (l : Waits) (s u : State A B) (a p : ℕ) (e : AllocateFault) → p ≡ page_of a → h p ≡ None → Accepted (add_refusals l p)
      → Takes k.stock k.out s.frames (Err e) u.frames → k.allocated s.frames p (Err e) u.frames → k.stock u.frames ≡ k.stock s.frames → u.tlb ≡ s.tlb
      → Did (record { pages = h; fills = l }) (record { pages = h; fills = l }) s u (event.Begin a (Err begin.NoFrame))
  begin_frameless h l s u a p AllOut page none (new, (few, _)) takes step stock tlb = record {
    right = rw (sym page) (record {
      first = ((λ (x, e). some_none e none), (new, (few, takes.0)));
      allocated = record { step = step; takes = takes; stock_stays = stock };
      same_tlb = tlb;
    });
    becomes = refl;
  }

  pub begun : (h : Mapping) (l r : Waits) (s u : State A B) (a p f : ℕ) → p ≡ page_of a → h p ≡ None → Accepted (add_refusals l p) → r ≡ at l p (Some (underway f))
      → Takes k.stock k.out s.frames (Ok f) u.frames → k.allocated s.frames p (Ok f) u.frames → k.stock u.frames ≡ k.stock s.frames → u.tlb ≡ s.tlb
      → Did (record { pages = h; fills = l }) (record { pages = h; fills = r }) s u (event.Begin a (Ok f))
  begun h l r s u a p f page none (new, (few, _)) fills takes step stock tlb = record {
    right = rw (sym page) (record {
      accepted = ((λ (x, e). some_none e none), (new, (few, (takes.0.0, tt))));
      allocated = record { step = step; takes = takes; stock_stays = stock };
      same_tlb = tlb;
    });
    becomes = rw (sym page) (ap (λ r. record { pages = h; fills = r }) fills);
  }

  pub settled : (h g : Mapping) (l r : Waits) (s u : State A B) (p : Page) (fill : Underway) (x : ℕ) (z : Translation) → Accepted (map_refusals h p.number z) → z.frame ≡ fill.frame → z.attributes ≡ x
      → l p.number ≡ Some fill → g ≡ mapped h p.number z → r ≡ at l p.number None → u ≡ s
      → Did (record { pages = h; fills = l }) (record { pages = g; fills = r }) s u (event.Settle p fill x (Ok fill.frame))
  settled h g l r s u p fill x z (_, accepted) frame attributes here maps fills same_state =
      let same : z ≡ translation fill.frame x = translation_is z fill.frame x frame attributes in
      record {
        right = record {
          accepted = ((λ big. let b = z.bits in omega arith), ((λ no. no here), subst (λ y. Accepted (room_refusals h p.number y)) same accepted));
          waited = here;
          answered = refl;
          same = same_state;
        };
        becomes = ap₂ (λ a b. record { pages = a; fills = b }) (maps ∙ ap (mapped h p.number) same) fills;
      }

  -- no room in the table
  pub unsettled : (h g : Mapping) (l : Waits) (s u : State A B) (p : Page) (fill : Underway) (x : ℕ) (z : Translation) (e : MapFault) (r : Result ℕ SettleFault) → h p.number ≡ None
      → First (map_refusals h p.number z) (map_number e) → z.frame ≡ fill.frame → z.attributes ≡ x → l p.number ≡ Some fill → IsErrAnd r (SettleFromMap e) → g ≡ h → u ≡ s
      → Did (record { pages = h; fills = l }) (record { pages = g; fills = l }) s u (event.Settle p fill x r)
  unsettled h g l s u p fill x z e r none first frame attributes here is same same_state =
      let m : PageMap = record { pages = h; fills = l } in
      let small : (4095 < x) → ⊥ = λ big. let b = z.bits in omega arith in
      let made : z ≡ translation fill.frame x = translation_is z fill.frame x frame attributes in
      err_only (λ r. Did m (record { pages = g; fills = l }) s u (event.Settle p fill x r)) (SettleFromMap e) r is (λ f from. record {
        right = record {
          first = subst (λ y. First ((4095 < x, 5) ∷ (l p.number ≢ Some fill, 6) ∷ room_refusals h p.number y) (settle_number f)) made (lacks e f h p.number z none small (λ no. no here) first from);
          same = same_state;
        };
        becomes = ap (λ a. record { pages = a; fills = l }) same;
      })

  -- a frame that is out is freed
  pub freed : (a b : B) (f : ℕ) (r : Result (Unit {0}) FreeFault) → Gives k.out a f r b → k.freed a f r b → k.stock b ≡ k.stock a → k.out a f ≡ true → Freed k a f b
  freed a b f (Ok x) gives step stock o = record { step = step; gives = gives; stock_stays = stock }
  freed a b f (Err NotOut) gives step stock o = absurd (both_ways _ gives.0 o)

  pub not_freed : (a b : B) (f : ℕ) (e : FreeFault) → Gives k.out a f (Err e) b → k.out a f ≡ true → ⊥
  not_freed a b f NotOut gives o = both_ways _ gives.0 o

  pub abandoned : (h : Mapping) (l r : Waits) (s u : State A B) (p : Page) (fill : Underway) → l p.number ≡ Some fill → r ≡ at l p.number None → Freed k s.frames fill.frame u.frames → u.tlb ≡ s.tlb
      → Did (record { pages = h; fills = l }) (record { pages = h; fills = r }) s u (event.Abandon p fill (Ok fill.frame))
  abandoned h l r s u p fill here fills free tlb = record {
    right = record { waited = here; answered = refl; freed = free; same_tlb = tlb };
    becomes = ap (λ b. record { pages = h; fills = b }) fills;
  }

  pub released_one : (h g : Mapping) (l : Waits) (s u : State A B) (a p : ℕ) (x : Translation) → p ≡ page_of a → h p ≡ Some x → g ≡ released h p → Freed k s.frames x.frame u.frames → Purged t s.tlb p u.tlb
      → Did (record { pages = h; fills = l }) (record { pages = g; fills = l }) s u (event.Release a (Ok x))
  released_one h g l s u a p x page here maps free purge = record {
    right = rw (sym page) (record { here = here; freed = free; purged = purge });
    becomes = rw (sym page) (ap (λ b. record { pages = b; fills = l }) maps);
  }

  pub protected_one : (h g : Mapping) (l : Waits) (s u : State A B) (a p x y : ℕ) → p ≡ page_of a → Accepted (protect_refusals h p x) → ((z : Translation) × (h p ≡ Some z) × (y ≡ z.attributes))
      → g ≡ protected h p x → Purged t s.tlb p u.tlb → u.frames ≡ s.frames
      → Did (record { pages = h; fills = l }) (record { pages = g; fills = l }) s u (event.Protect a x (Ok y))
  protected_one h g l s u a p x y page accepted (z, here, answer) maps purge frames = record {
    right = rw (sym page) (record { accepted = accepted; former = z; here = here; answered = answer; purged = purge; same_frames = frames });
    becomes = rw (sym page) (ap (λ b. record { pages = b; fills = l }) maps);
  }

  pub unprotected : (h g : Mapping) (l : Waits) (s u : State A B) (a p x : ℕ) (e : ProtectFault) (r : Result ℕ ProtectFault) → p ≡ page_of a → IsErrAnd r (λ f. f ≡ e)
      → First (protect_refusals h p x) (protect_number e) → g ≡ h → u ≡ s → Did (record { pages = h; fills = l }) (record { pages = g; fills = l }) s u (event.Protect a x r)
  unprotected h g l s u a p x e r page is first same same_state =
      err_only (λ r. Did (record { pages = h; fills = l }) (record { pages = g; fills = l }) s u (event.Protect a x r)) (λ f. f ≡ e) r is (λ f i. record {
        right = rw (sym page) (record { first = subst (λ c. First (protect_refusals h p x) (protect_number c)) (sym i) first; same = same_state });
        becomes = ap (λ b. record { pages = b; fills = l }) same;
      })

  module _ (h : Mapping) (l : Waits) (s u : State A B) (a p x : ℕ) (c : Access) (page : p ≡ page_of a) (number : access_number c ≡ x) (frames : u.frames ≡ s.frames) where
    abbrev m : PageMap
    m = record { pages = h; fills = l }

    good : BadAccess x → ⊥
    good bad = bad c number

    module _ (z : Translation) (q : Mark) (looked : LookedUp t h q s.tlb p z u.tlb) where
      pub denied : allowed z.attributes c ≡ false → Did m m s u (event.Touch a x (Err touch.Denied))
      denied lack = record {
        right = rw (sym page) (record { first = (good, ((λ n. some_none looked.here n), (c, z, number, looked.here, lack))); mark = q; found = z; looked_up = looked; same_frames = frames });
        becomes = refl;
      }

      pub touched : (d : Touched) → allowed z.attributes c ≡ true → d.physical ≡ z.frame * 4096 + a % 4096 → d.mark ≡ q → Did m m s u (event.Touch a x (Ok d))
      touched d may physical mark =
          let lets : (b : Access) (y : Translation) → access_number b ≡ x → h p ≡ Some y → allowed y.attributes b ≡ false → ⊥ = λ b y n e f.
          both_ways _ (ap₂ (λ (v : Translation) g. allowed v.attributes g) (same_some looked.here e) (same_access c b (number ∙ sym n)) ∙ f) may in
          record {
            right = record {
              accepted = rw (sym page) (good, ((λ n. some_none looked.here n), ((λ (b, y, n, e, f). lets b y n e f), tt)));
              found = z;
              answered = physical;
              looked_up = rw (sym page) (subst (λ v. LookedUp t h v s.tlb p z u.tlb) (sym mark) looked);
              same_frames = frames;
            };
            becomes = refl;
          }

  pub walked : (m : PageMap) (s : State A B) (a p : ℕ) (r : Result Walked NotMapped) → p ≡ page_of a
      → MatchResult r (λ w. Walks m.pages p w) (λ _. First (mapped_refusals m.pages p) not_mapped_number) → Did m m s s (event.Walk a r)
  walked m s a p (Ok w) page f = record { right = rw (sym page) (record { walks = f; same = refl }); becomes = refl }
  walked m s a p (Err e) page f = record { right = rw (sym page) (record { first = f; same = refl }); becomes = refl }

  -- the entry e has the word of a walk for the page p, and the TLB, which had no pair, took it in
  pub filled : (m : Mapping) (a v b : A) (p : ℕ) (w : Walked) (e : Entry) (x : Translation) → e.page.number ≡ p → e.word ≡ w.word → Walks m p w → m p ≡ Some x
      → ProbedInVain t a p v → t.loaded v e p b → Loads t.pairs v e p b → LookedUp t m Missed a p x b
  filled m a v b p w e x page word walks here probed step loads =
      let stands : StandsFor m p (form_of e.word) (bits_of e.word) = subst (λ z. StandsFor m p (form_of z) (bits_of z)) (sym word) walks.word in
      let own : StandsFor m e.page.number (form_of e.word) (bits_of e.word) = subst (λ q. StandsFor m q (form_of e.word) (bits_of e.word)) (sym page) stands in
      let says : entry_says e p ≡ Some x = ap (entry_says e) (sym page) ∙ own_says m e own ∙ ap m page ∙ here in
      let took : TlbTakes t.pairs v e p x b = subst (λ o. MatchOption o (SamePairs t.pairs v b) (λ y. TlbTakes t.pairs v e p y b)) says loads in
      record {
        here = here;
        marked = probed.lacks;
        asked = (v, probed, record { entry = e; is_entry = record { of_page = page; stands = stands }; loaded = step; loads = loads });
        pair = took.has;
      }

  pub hit : (m : Mapping) (a b : A) (p : ℕ) (x : Translation) → Coherent t m a → t.probed a p (Some x) b → Answers t.pairs a p (Some x) b → Within t.pairs a b → LookedUp t m Hit a p x b
  hit m a b p x c step (before, after) within = record { here = c p x before; marked = (x, before); asked = (step, within); pair = after }

  -- an answer that is known to be Ok
  pub only_ok : {X E : Type 0} (P : X → Type 0) (Q : E → Type 0) (r : Result X E) → MatchResult r P Q → ((e : E) → Q e → ⊥) → (x : X) × P x
  only_ok P Q (Ok x) p f = (x, p)
  only_ok P Q (Err e) q f = absurd (f e q)

module _ {A B : Type 0} {t : tlb.Ghosts A} {k : allocator.Ghosts B} where
  pub lawful : (s u : Space A B t k) (e : Event) → Small t.meaning k.meaning → Did t.meaning k.meaning (page_map s) (page_map u) (seen s) (seen u) e → Lawful s e u
  lawful s u e small d = record {
    right = d.right;
    becomes = d.becomes;
    accounts = λ start a. subst (λ n. Accounted k.meaning start n u.frames) (sym d.becomes)
        ((stays t.meaning k.meaning small (page_map s) (seen s) (seen u) e s.sound d.right).1 start (record { sound = s.sound; accounted = a })).accounted;
  }

  -- only the TLB was called
  pub looked_lawful : (s u : Space A B t k) (e : Event) → Small t.meaning k.meaning → OnlyTlb s u → Did t.meaning k.meaning (page_map s) (page_map s) (seen s) (seen u) e → Lawful s e u
  looked_lawful s u e small (table, fills, frames) d =
      lawful s u e small (record { right = d.right; becomes = ap₂ kept_map table fills ∙ d.becomes })

  -- begin was refused for want of a frame
  pub frameless : (s u : Space A B t k) (a : ℕ) (r : Result Fill BeginFault) → Small t.meaning k.meaning → IsErrAnd r (λ f. f ≡ begin.NoFrame)
      → Did t.meaning k.meaning (page_map s) (page_map u) (seen s) (seen u) (event.Begin a (Err begin.NoFrame)) → Lawful s (begun_event a r) u
  frameless s u a r small is d = err_only (λ r. Lawful s (begun_event a r) u) (λ f. f ≡ begin.NoFrame) r is
      (λ f i. subst (λ b. Lawful s (begun_event a (Err b)) u) (sym i) (lawful s u (event.Begin a (Err begin.NoFrame)) small d))
