-- The frames and the fills of a map that is changed at one page.
use Rattle.std.proofs.Common.{◌≡◌, ℕ, Some, None, Option, is_some, refl, sym, ap, ◌∙◌, ⊎_elim, arith}
use Rattle.std.proofs.lemmas.Bool.{cases_eq, both_ways}
use Rattle.std.specs.Option.{option_map}
use Rattle.words.specs.declared.translation.Translation.{Translation}
use Rattle.words.specs.Points.{at}
use Rattle.words.specs.Reading.{translation}
use Rattle.words.specs.Blocks.{Mapping}
use Rattle.chains.proofs.Linking.{at_here, at_there}
use Rattle.fills.specs.declared.underway.Underway.{Underway}
use Rattle.fills.specs.Fills.{Waits, underway}
use Rattle.table.specs.Calls.{mapped, released, protected}
use Rattle.law.specs.PageMap.{frame_of}

pub some_none : {X : Type 0} {x : X} {o : Option X} → o ≡ Some x → o ≡ None → ⊥
some_none e n = both_ways _ (ap is_some (sym e ∙ n)) refl

pub same_some : {X : Type 0} {x y : X} {o : Option X} → o ≡ Some x → o ≡ Some y → x ≡ y
same_some e f = cc

-- the frame at each page
abbrev pub frames_in : Mapping → Waits → ℕ → Option ℕ
frames_in h l q = frame_of (h q) (l q)

-- the frame of a fill
abbrev pub fill_frame : Option Underway → Option ℕ
fill_frame o = option_map (λ f. f.frame) o

module _ (h : Mapping) (l : Waits) (p : ℕ) where
  -- where one of the two is changed at p, and so the frame at p
  at_one : (g : Mapping) (k : Waits) (x : Option ℕ) → frames_in g k p ≡ x → ((q : ℕ) → (q ≡ p → ⊥) → (g q ≡ h q) × (k q ≡ l q)) → (q : ℕ) → frames_in g k q ≡ at (frames_in h l) p x q
  at_one g k x own rest q = ⊎_elim
      (λ e. ap (frames_in g k) e ∙ own ∙ sym (at_here (frames_in h l) p x q e))
      (λ ne. let (a, b) = rest q ne in ap (λ y. frame_of y (k q)) a ∙ ap (frame_of (h q)) b ∙ sym (at_there (frames_in h l) p x q ne))
      (cases_eq q p)

  pub fill_frames : (f : ℕ) → h p ≡ None → (q : ℕ) → frames_in h (at l p (Some (underway f))) q ≡ at (frames_in h l) p (Some f) q
  fill_frames f e = let k = at l p (Some (underway f)) in
      at_one h k (Some f) (ap (λ y. frame_of y (k p)) e ∙ ap fill_frame (at_here l p (Some (underway f)) p refl)) (λ q ne. (refl, at_there l p (Some (underway f)) q ne))

  pub unfill_frames : h p ≡ None → (q : ℕ) → frames_in h (at l p None) q ≡ at (frames_in h l) p None q
  unfill_frames e = at_one h (at l p None) None (ap (λ y. frame_of y (at l p None p)) e ∙ ap fill_frame (at_here l p None p refl)) (λ q ne. (refl, at_there l p None q ne))

  pub release_frames : l p ≡ None → (q : ℕ) → frames_in (released h p) l q ≡ at (frames_in h l) p None q
  release_frames e = at_one (released h p) l None (ap (λ y. frame_of y (l p)) (at_here h p None p refl) ∙ ap fill_frame e) (λ q ne. (at_there h p None q ne, refl))

  pub settle_frames : (t : Translation) (f : Underway) → h p ≡ None → l p ≡ Some f → t.frame ≡ f.frame → (q : ℕ) → frames_in (mapped h p t) (at l p None) q ≡ frames_in h l q
  settle_frames t f e i same q = ⊎_elim
      (λ s. ap (frames_in (mapped h p t) (at l p None)) s ∙ ap (λ y. frame_of y (at l p None p)) (at_here h p (Some t) p refl) ∙ ap Some same
      ∙ sym (ap (frames_in h l) s ∙ ap (λ y. frame_of y (l p)) e ∙ ap fill_frame i))
      (λ ne. ap (λ y. frame_of y (at l p None q)) (at_there h p (Some t) q ne) ∙ ap (frame_of (h q)) (at_there l p None q ne))
      (cases_eq q p)

  -- a page that is protected keeps its frame, which is below 2^28
  kept_frame : (o : Option Translation) (x : ℕ) (n : Option Underway) → frame_of (option_map (λ t. translation t.frame x) o) n ≡ frame_of o n
  kept_frame (Some t) x n = ap Some (let z = t.frames in omega arith)
  kept_frame None x n = refl

  pub protect_frames : (x : ℕ) (q : ℕ) → frames_in (protected h p x) l q ≡ frames_in h l q
  protect_frames x q = ⊎_elim
      (λ s. ap (frames_in (protected h p x) l) s ∙ ap (λ y. frame_of y (l p)) (at_here h p _ p refl) ∙ kept_frame (h p) x (l p) ∙ sym (ap (frames_in h l) s))
      (λ ne. ap (λ y. frame_of y (l q)) (at_there h p _ q ne))
      (cases_eq q p)

  -- a page with a fill is not mapped
  module _ (w : (g : Underway) (q : ℕ) → l q ≡ Some g → h q ≡ None) where
    pub unfilled : (t : Translation) → h p ≡ Some t → l p ≡ None
    unfilled t e = each (l p) refl
      where
        each : (o : Option Underway) → l p ≡ o → l p ≡ None
        each None i = i
        each (Some g) i = absurd (some_none e (w g p i))

    pub fill_waits : (o : Option Underway) → h p ≡ None → (g : Underway) (q : ℕ) → at l p o q ≡ Some g → h q ≡ None
    fill_waits o e g q i = ⊎_elim (λ s. ap h s ∙ e) (λ ne. w g q (sym (at_there l p o q ne) ∙ i)) (cases_eq q p)

    -- the page p has no fill, and the others are mapped where they were
    pub unfill_waits : (k : Mapping) → ((q : ℕ) → (q ≡ p → ⊥) → h q ≡ None → k q ≡ None) → (g : Underway) (q : ℕ) → at l p None q ≡ Some g → k q ≡ None
    unfill_waits k f g q i = ⊎_elim (λ s. absurd (some_none i (at_here l p None q s))) (λ ne. f q ne (w g q (sym (at_there l p None q ne) ∙ i))) (cases_eq q p)

    pub change_waits : (o : Option Translation) → (h p ≡ None → o ≡ None) → (g : Underway) (q : ℕ) → l q ≡ Some g → at h p o q ≡ None
    change_waits o f g q i = ⊎_elim (λ s. at_here h p o q s ∙ f (ap h (sym s) ∙ w g q i)) (λ ne. at_there h p o q ne ∙ w g q i) (cases_eq q p)
