-- No frame is at two places after a run, and a walk leads to what the page was given last.
use Rattle.std.proofs.Common.{◌≡◌, ℕ, List, [], ◌∷◌, Some, None, Option, Ok, Err, refl, sym, ap, ◌∙◌, subst, ⊎_elim}
use Rattle.std.proofs.lemmas.Bool.{cases_eq}
use Rattle.std.proofs.lemmas.Option.{none-some}
use Rattle.std.specs.Option.{option_map}
use Rattle.words.specs.declared.translation.Translation.{Translation}
use Rattle.words.specs.Layout.{page_of}
use Rattle.words.specs.Points.{at}
use Rattle.words.specs.Reading.{translation, answer_of, answer_number}
use Rattle.words.specs.Words.{form_of}
use Rattle.words.specs.Blocks.{Mapping}
use Rattle.words.proofs.WordLaws.{stands_reading}
use Rattle.blocks.specs.declared.blocks.Walked.{Walked}
use Rattle.blocks.specs.Blocks.{Walks}
use Rattle.chains.proofs.Linking.{at_here, at_there}
use Rattle.tlb.specs.Meaning.{TlbMeaning}
use Rattle.frames.specs.Meaning.{FramesMeaning}
use Rattle.table.specs.Calls.{unmapped}
use Rattle.law.specs.declared.calls.Event.{Event}
use Rattle.law.specs.declared.calls.Event.TheVariants as event
use Rattle.law.specs.PageMap.{PageMap, nothing, next, next_pages, after, frame_of, frame_at}
use Rattle.law.specs.Law.{State, Sound}
use Rattle.law.specs.Runs.{Kept, SpaceRun, Apart, given_by, given_in, ReadsGiven, FramesApart}
use Rattle.law.proofs.Points.{some_none}
use Rattle.law.proofs.Steps.{fill_at}

-- each mapped page has what it was given last
abbrev AsGiven : Mapping → Mapping → Type 0
AsGiven m g = (p : ℕ) (x : Translation) → m p ≡ Some x → g p ≡ Some x

-- the page p is mapped to o, and given y
given_at : (m g : Mapping) (p : ℕ) (o y : Option Translation) → AsGiven m g → ((x : Translation) → o ≡ Some x → y ≡ Some x) → AsGiven (at m p o) (at g p y)
given_at m g p o y k f q x e = ⊎_elim
    (λ i. at_here g p y q i ∙ f x (sym (at_here m p o q i) ∙ e))
    (λ ne. at_there g p y q ne ∙ k q x (sym (at_there m p o q ne) ∙ e))
    (cases_eq q p)

-- the page p is not mapped, and nothing is given
given_none : (m g : Mapping) (p : ℕ) → AsGiven m g → AsGiven (at m p None) g
given_none m g p k q x e = ⊎_elim (λ i. absurd (some_none e (at_here m p None q i))) (λ ne. k q x (sym (at_there m p None q ne) ∙ e)) (cases_eq q p)

-- a page that is protected gets other attributes in both
both_protected : (o y : Option Translation) (a : ℕ) (x : Translation) → ((u : Translation) → o ≡ Some u → y ≡ Some u) → option_map (λ u. translation u.frame a) o ≡ Some x → option_map (λ u. translation u.frame a) y ≡ Some x
both_protected None y a x k e = absurd (none-some x e)
both_protected (Some u) y a x k e = ap (option_map (λ v. translation v.frame a)) (k u refl) ∙ e

given_next : (m g : Mapping) (e : Event) → AsGiven m g → AsGiven (next_pages m e) (given_by g e)
given_next m g (event.Begin a r) h = h
given_next m g (event.Settle p fill x (Ok y)) h = given_at m g p.number _ _ h (λ z e. e)
given_next m g (event.Settle p fill x (Err e)) h = h
given_next m g (event.Abandon p fill r) h = h
given_next m g (event.Release a (Ok x)) h = given_none m g (page_of a) h
given_next m g (event.Release a (Err e)) h = h
given_next m g (event.Protect a x (Ok y)) h = given_at m g (page_of a) _ _ h (λ z e. both_protected (m (page_of a)) (g (page_of a)) x z (h (page_of a)) e)
given_next m g (event.Protect a x (Err e)) h = h
given_next m g (event.Touch a x r) h = h
given_next m g (event.Walk a r) h = h
given_next m g (event.Census c) h = h

module _ {A B : Type 0} (t : TlbMeaning A) (k : FramesMeaning B) where
  apart : (m : PageMap) (s : State A B) → Sound t k m s → Apart m
  apart m s d = record {
    pages = λ p q x y e i same. d.once y.frame p q (behind p x e ∙ ap Some same) (behind q y i);
    fills = λ p q x y e i same. d.once y.frame p q (fill_at t k m s s d p x e ∙ ap Some same) (fill_at t k m s s d q y i);
    both = λ p q x y e i same.
        let one = d.once y.frame p q (behind p x e ∙ ap Some same) (fill_at t k m s s d q y i) in
        some_none e (ap m.pages one ∙ d.waits y q i);
  }
    where
      behind : (p : ℕ) (x : Translation) → m.pages p ≡ Some x → frame_at m p ≡ Some x.frame
      behind p x e = ap (λ o. frame_of o (m.fills p)) e

  -- a run ends in a sound state, and each page has what it was given
  run_keeps : (start : B) (m : PageMap) (g : Mapping) (s : State A B) (es : List Event) (u : State A B) → SpaceRun t k start m s es u → AsGiven m.pages g
      → Kept t k start (after m es) u × AsGiven (after m es).pages (given_in g es)
  run_keeps start m g s [] u (d, e) h = (subst (Kept t k start m) (sym e) d, h)
  run_keeps start m g s (e ∷ es) u (d, (v, right, rest)) h = run_keeps start (next m e) (given_by g e) v es u rest (given_next m.pages g e h)

  reads : (m : Mapping) (es : List Event) (p : ℕ) (w : Walked) → AsGiven m (given_in unmapped es) → Walks m p w → ReadsGiven es p w
  reads m es p w h d = let (x, e) = d.mapped in (
    x,
    h p x e,
    ap answer_number (stands_reading m p (form_of w.word) _ d.word) ∙ ap (λ o. answer_number (answer_of o)) e,
  )

  pub frames_apart : FramesApart t k
  frames_apart tlb frames es u obeys =
      let (d, h) = run_keeps frames nothing unmapped _ es u obeys.run (λ p x e. absurd (none-some x e)) in
      (apart (after nothing es) u d.sound, λ a w v right. reads (after nothing es).pages es (page_of a) w h right.walks)
