-- What holds of a space holds after each right event.
use Rattle.std.proofs.Common.{◌≡◌, ℕ, ◌^◌, ◌<◌, true, Some, None, Option, Ok, Err, refl, sym, ap, ◌∙◌, subst, inl, ⊎_elim, arith}
use Rattle.std.proofs.lemmas.Bool.{cases_eq}
use Rattle.std.specs.Option.{option_map}
use Rattle.words.specs.declared.translation.Translation.{Translation}
use Rattle.words.specs.Layout.{page_of}
use Rattle.words.specs.Points.{at}
use Rattle.words.specs.Reading.{translation}
use Rattle.words.specs.Words.{form_of, bits_of}
use Rattle.words.specs.Blocks.{Mapping, StandsFor}
use Rattle.chains.proofs.Linking.{at_there}
use Rattle.tlb.specs.Meaning.{TlbMeaning, Within}
use Rattle.frames.specs.Meaning.{FramesMeaning}
use Rattle.fills.specs.declared.underway.Underway.{Underway}
use Rattle.fills.specs.Fills.{underway}
use Rattle.table.specs.Calls.{mapped}
use Rattle.law.specs.declared.calls.Mark.{Mark}
use Rattle.law.specs.declared.calls.Mark.TheVariants.{Hit, Missed}
use Rattle.law.specs.declared.calls.Event.{Event}
use Rattle.law.specs.declared.calls.Event.TheVariants as event
use Rattle.law.specs.declared.fault.BeginFault.TheVariants as begin
use Rattle.law.specs.declared.fault.TouchFault.TheVariants as touch
use Rattle.law.specs.PageMap.{PageMap, next, frame_of, frame_at}
use Rattle.law.specs.Law.{State, Coherent, LookedUp, Purged, Begun, Settled, Abandoned, Right, Sound, Accounted}
use Rattle.law.specs.Runs.{Stays}
use Rattle.law.proofs.Entries.{says_within, loaded_from}
use Rattle.law.proofs.Frames.{Placed, place_taken, place_given, place_moved, taken, given, moved}
use Rattle.law.proofs.Points.{some_none, fill_frame, fill_frames, unfill_frames, settle_frames, release_frames, protect_frames, unfilled, fill_waits, unfill_waits, change_waits}

pub is_none : {X : Type 0} (o : Option X) → (((x : X) × (o ≡ Some x)) → ⊥) → o ≡ None
is_none None h = refl
is_none (Some x) h = absurd (h (x, refl))

module _ {A B : Type 0} (t : TlbMeaning A) (k : FramesMeaning B) where
  -- no pair came in
  pub within_coherent : (m : Mapping) (a b : A) → Within t.pairs a b → Coherent t m a → Coherent t m b
  within_coherent m a b w c q x h = c q x (w q x h)

  -- the TLB is as it was, and what it has is mapped as before
  kept_coherent : (m n : Mapping) (a b : A) → b ≡ a → ((q : ℕ) (x : Translation) → m q ≡ Some x → n q ≡ Some x) → Coherent t m a → Coherent t n b
  kept_coherent m n a b same f c q x h = f q x (c q x (subst (λ y. t.pairs y q x) same h))

  -- the TLB was purged of the page that is mapped otherwise
  purged_coherent : (m : Mapping) (p : ℕ) (o : Option Translation) (a b : A) → Purged t a p b → Coherent t m a → Coherent t (at m p o) b
  purged_coherent m p o a b d c q x h = ⊎_elim
      (λ e. absurd (d.gone x (subst (λ n. t.pairs b n x) e h)))
      (λ ne. at_there m p o q ne ∙ c q x (d.within q x h))
      (cases_eq q p)

  pub looked_coherent : (m : Mapping) (mark : Mark) (a : A) (p : ℕ) (x : Translation) (b : A) → LookedUp t m mark a p x b → Coherent t m a → Coherent t m b
  looked_coherent m Hit a p x b d c q y h = let (_, within) = d.asked in c q y (within q y h)
  looked_coherent m Missed a p x b d c q y h =
      let (v, probed, filled) = d.asked in
      let e = filled.entry in
      let stands : StandsFor m e.page.number (form_of e.word) (bits_of e.word) =
      subst (λ n. StandsFor m n (form_of e.word) (bits_of e.word)) (sym filled.is_entry.of_page) filled.is_entry.stands in
      ⊎_elim (λ o. c q y (probed.within q y o)) (λ o. says_within m (form_of e.word) (bits_of e.word) e.page.number q y stands o)
      (loaded_from t.pairs v b e p q y filled.loads h)

  pub placed : (m : PageMap) (s : State A B) → Sound t k m s → Placed (k.out s.frames) m
  placed m s d = record { is_out = d.is_out; once = d.once }

  -- nothing is mapped, no page waits, and the TLB has no pair
  pub empty_sound : (m : PageMap) (s : State A B) → ((p : ℕ) → m.pages p ≡ None) → ((p : ℕ) → m.fills p ≡ None) → ((p : ℕ) (x : Translation) → t.pairs s.tlb p x → ⊥) → Sound t k m s
  empty_sound m s none unfilled lacks = record {
    coherent = λ p x h. absurd (lacks p x h);
    is_out = λ f p e. absurd (some_none e (nowhere p));
    once = λ f p q e i. absurd (some_none e (nowhere p));
    waits = λ f p e. absurd (some_none e (unfilled p));
  }
    where
      nowhere : (p : ℕ) → frame_at m p ≡ None
      nowhere p = ap (λ o. frame_of o (m.fills p)) (none p) ∙ ap fill_frame (unfilled p)

  -- then the frames out are those of the start
  pub empty_accounted : (start : B) (m : PageMap) → ((p : ℕ) → m.pages p ≡ None) → ((p : ℕ) → m.fills p ≡ None) → Accounted k start m start
  empty_accounted start m none unfilled = record {
    stock_stays = refl;
    came = λ f o. inl o;
    stays = λ f o. o;
    own = λ f p e. absurd (some_none e (ap (λ o. frame_of o (m.fills p)) (none p) ∙ ap fill_frame (unfilled p)));
  }

  module _ (m : PageMap) (s u : State A B) (d : Sound t k m s) where
    -- the page that waits is not mapped, and its frame is out
    pub fill_at : (p : ℕ) (f : Underway) → m.fills p ≡ Some f → frame_at m p ≡ Some f.frame
    fill_at p f e = ap (λ o. frame_of o (m.fills p)) (d.waits f p e) ∙ ap fill_frame e

    page_at : (p : ℕ) (x : Translation) → m.pages p ≡ Some x → frame_at m p ≡ Some x.frame
    page_at p x e = ap (λ o. frame_of o (m.fills p)) e

    empty_at : (p : ℕ) → m.pages p ≡ None → m.fills p ≡ None → frame_at m p ≡ None
    empty_at p e i = ap (λ o. frame_of o (m.fills p)) e ∙ ap fill_frame i

    with_parts : (n : PageMap) → Coherent t n.pages u.tlb → Placed (k.out u.frames) n → ((f : Underway) (p : ℕ) → n.fills p ≡ Some f → n.pages p ≡ None) → Sound t k n u
    with_parts n c q w = record { coherent = c; is_out = q.is_out; once = q.once; waits = w }

    -- nothing has changed
    same_sound : u ≡ s → Sound t k m u
    same_sound e = subst (λ v. Sound t k m v) (sym e) d

    -- only the TLB has changed
    pub tlb_sound : Coherent t m.pages u.tlb → u.frames ≡ s.frames → Sound t k m u
    tlb_sound c e = with_parts m c (place_moved m m 0 0 (k.out s.frames) (k.out u.frames) (placed m s d) (λ q. refl) (ap k.out e)) d.waits

    begun_sound : (a f : ℕ) → Begun t k m s (page_of a) f u → Sound t k (next m (event.Begin a (Ok f))) u
    begun_sound a f r =
        let p : ℕ = page_of a in
        let none = is_none _ r.accepted.0 in
        let unfilled = is_none _ r.accepted.1.0 in
        let (_, known, inside, out) = r.allocated.takes in
        with_parts _ (kept_coherent m.pages m.pages s.tlb u.tlb r.same_tlb (λ q x e. e) d.coherent)
        (place_taken m _ p f (k.out s.frames) (k.out u.frames) (placed m s d) (empty_at p none unfilled) inside out (fill_frames m.pages m.fills p f none))
        (fill_waits m.pages m.fills p d.waits (Some (underway f)) none)

    abandoned_sound : (p f g : ℕ) (fill : Underway) → Abandoned t k m s p fill g u → Sound t k (record { pages = m.pages; fills = at m.fills p None }) u
    abandoned_sound p f g fill r =
        let none = d.waits fill p r.waited in
        with_parts _ (kept_coherent m.pages m.pages s.tlb u.tlb r.same_tlb (λ q x e. e) d.coherent)
        (place_given m _ p fill.frame (k.out s.frames) (k.out u.frames) (placed m s d) (fill_at p fill r.waited) r.freed.gives.1 (unfill_frames m.pages m.fills p none))
        (unfill_waits m.pages m.fills p d.waits m.pages (λ q ne e. e))

  module _ (small : (b : B) (f : ℕ) → k.out b f ≡ true → f < 2 ^ 28) (m : PageMap) (s u : State A B) (d : Sound t k m s) where
    settled_frame : (p x : ℕ) (fill : Underway) → m.fills p ≡ Some fill → (translation fill.frame x).frame ≡ fill.frame
    settled_frame p x fill e = let l = small s.frames fill.frame (d.is_out fill.frame p (fill_at m s u d p fill e)) in omega arith

    settled_sound : (p x g : ℕ) (fill : Underway) → Settled t k m s p fill x g u → Sound t k (record { pages = mapped m.pages p (translation fill.frame x); fills = at m.fills p None }) u
    settled_sound p x g fill r =
        let z : Translation = translation fill.frame x in
        let none = d.waits fill p r.waited in
        with_parts m s u d _
        (kept_coherent m.pages (mapped m.pages p z) s.tlb u.tlb (ap (λ v. v.tlb) r.same) (λ q y e. at_there m.pages p (Some z) q (λ i. some_none e (ap m.pages i ∙ none)) ∙ e) d.coherent)
        (place_moved m _ 0 0 (k.out s.frames) (k.out u.frames) (placed m s d) (settle_frames m.pages m.fills p z fill none r.waited (settled_frame p x fill r.waited)) (ap (λ v. k.out v.frames) r.same))
        (unfill_waits m.pages m.fills p d.waits (mapped m.pages p z) (λ q ne e. at_there m.pages p (Some z) q ne ∙ e))

    pub next_sound : (e : Event) → Right t k m s e u → Sound t k (next m e) u
    next_sound (event.Begin a (Ok f)) r = begun_sound m s u d a f r
    next_sound (event.Begin a (Err begin.Mapped)) r = same_sound m s u d r.same
    next_sound (event.Begin a (Err begin.Waiting)) r = same_sound m s u d r.same
    next_sound (event.Begin a (Err begin.TooMany)) r = same_sound m s u d r.same
    next_sound (event.Begin a (Err begin.NoFrame)) r =
        with_parts m s u d m (kept_coherent m.pages m.pages s.tlb u.tlb r.same_tlb (λ q x e. e) d.coherent)
        (place_moved m m 0 0 (k.out s.frames) (k.out u.frames) (placed m s d) (λ q. refl) r.allocated.takes.1) d.waits
    next_sound (event.Settle p fill x (Ok g)) r = settled_sound p.number x g fill r
    next_sound (event.Settle p fill x (Err e)) r = same_sound m s u d r.same
    next_sound (event.Abandon p fill (Ok g)) r = abandoned_sound m s u d p.number 0 g fill r
    next_sound (event.Abandon p fill (Err e)) r = same_sound m s u d r.same
    next_sound (event.Release a (Ok x)) r =
        let p : ℕ = page_of a in
        with_parts m s u d _ (purged_coherent m.pages p None s.tlb u.tlb r.purged d.coherent)
        (place_given m _ p x.frame (k.out s.frames) (k.out u.frames) (placed m s d) (page_at m s u d p x r.here) r.freed.gives.1 (release_frames m.pages m.fills p (unfilled m.pages m.fills p d.waits x r.here)))
        (change_waits m.pages m.fills p d.waits None (λ e. refl))
    next_sound (event.Release a (Err e)) r = same_sound m s u d r.same
    next_sound (event.Protect a x (Ok y)) r =
        let p : ℕ = page_of a in
        with_parts m s u d _ (purged_coherent m.pages p _ s.tlb u.tlb r.purged d.coherent)
        (place_moved m _ 0 0 (k.out s.frames) (k.out u.frames) (placed m s d) (protect_frames m.pages m.fills p x) (ap k.out r.same_frames))
        (change_waits m.pages m.fills p d.waits _ (λ e. ap (option_map (λ w. translation w.frame x)) e))
    next_sound (event.Protect a x (Err e)) r = same_sound m s u d r.same
    next_sound (event.Touch a x (Ok y)) r = tlb_sound m s u d (looked_coherent m.pages y.mark s.tlb (page_of a) r.found u.tlb r.looked_up d.coherent) r.same_frames
    next_sound (event.Touch a x (Err touch.BadAccess)) r = same_sound m s u d r.same
    next_sound (event.Touch a x (Err touch.NotMapped)) r = tlb_sound m s u d (within_coherent m.pages s.tlb u.tlb r.probed.within d.coherent) r.same_frames
    next_sound (event.Touch a x (Err touch.Denied)) r = tlb_sound m s u d (looked_coherent m.pages r.mark s.tlb (page_of a) r.found u.tlb r.looked_up d.coherent) r.same_frames
    next_sound (event.Walk a (Ok w)) r = same_sound m s u d r.same
    next_sound (event.Walk a (Err e)) r = same_sound m s u d r.same
    next_sound (event.Census c) r = same_sound m s u d r.same

    module _ (start : B) (a : Accounted k start m s.frames) where
      same_frames : (n : PageMap) → u.frames ≡ s.frames → ((q : ℕ) → frame_at n q ≡ frame_at m q) → Accounted k start n u.frames
      same_frames n e h = moved k start s.frames u.frames m n 0 0 a (ap k.stock e) (ap k.out e) h

      same_state : u ≡ s → Accounted k start m u.frames
      same_state e = same_frames m (ap (λ v. v.frames) e) (λ q. refl)

      pub next_accounted : (e : Event) → Right t k m s e u → Accounted k start (next m e) u.frames
      next_accounted (event.Begin b (Ok f)) r =
          let p : ℕ = page_of b in
          let none = is_none _ r.accepted.0 in
          let unfilled = is_none _ r.accepted.1.0 in
          let (_, known, inside, out) = r.allocated.takes in
          taken k start s.frames u.frames m _ p f a r.allocated.stock_stays (empty_at m s u d p none unfilled) inside out (fill_frames m.pages m.fills p f none)
      next_accounted (event.Begin b (Err begin.Mapped)) r = same_state r.same
      next_accounted (event.Begin b (Err begin.Waiting)) r = same_state r.same
      next_accounted (event.Begin b (Err begin.TooMany)) r = same_state r.same
      next_accounted (event.Begin b (Err begin.NoFrame)) r = moved k start s.frames u.frames m m 0 0 a r.allocated.stock_stays r.allocated.takes.1 (λ q. refl)
      next_accounted (event.Settle p fill x (Ok g)) r =
          same_frames _ (ap (λ v. v.frames) r.same) (settle_frames m.pages m.fills p.number (translation fill.frame x) fill (d.waits fill p.number r.waited) r.waited (settled_frame p.number x fill r.waited))
      next_accounted (event.Settle p fill x (Err e)) r = same_state r.same
      next_accounted (event.Abandon p fill (Ok g)) r =
          given k start s.frames u.frames m _ p.number fill.frame a r.freed.stock_stays (fill_at m s u d p.number fill r.waited) r.freed.gives.1 (unfill_frames m.pages m.fills p.number (d.waits fill p.number r.waited))
      next_accounted (event.Abandon p fill (Err e)) r = same_state r.same
      next_accounted (event.Release b (Ok x)) r =
          let p : ℕ = page_of b in
          given k start s.frames u.frames m _ p x.frame a r.freed.stock_stays (page_at m s u d p x r.here) r.freed.gives.1 (release_frames m.pages m.fills p (unfilled m.pages m.fills p d.waits x r.here))
      next_accounted (event.Release b (Err e)) r = same_state r.same
      next_accounted (event.Protect b x (Ok y)) r = same_frames _ r.same_frames (protect_frames m.pages m.fills (page_of b) x)
      next_accounted (event.Protect b x (Err e)) r = same_state r.same
      next_accounted (event.Touch b x (Ok y)) r = same_frames m r.same_frames (λ q. refl)
      next_accounted (event.Touch b x (Err touch.BadAccess)) r = same_state r.same
      next_accounted (event.Touch b x (Err touch.NotMapped)) r = same_frames m r.same_frames (λ q. refl)
      next_accounted (event.Touch b x (Err touch.Denied)) r = same_frames m r.same_frames (λ q. refl)
      next_accounted (event.Walk b (Ok w)) r = same_state r.same
      next_accounted (event.Walk b (Err e)) r = same_state r.same
      next_accounted (event.Census c) r = same_state r.same

  pub stays : ((b : B) (f : ℕ) → k.out b f ≡ true → f < 2 ^ 28) → Stays t k
  stays small m s u e d r =
      let n = next_sound small m s u d e r in
      (n, λ start a. record { sound = n; accounted = next_accounted small m s u d start a.accounted e r })
