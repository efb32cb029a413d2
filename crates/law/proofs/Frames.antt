-- Frames stay accounted for when one goes out, when one comes in, and when none does.
use Rattle.std.proofs.Common.{◌≡◌, ℕ, Bool, true, false, cond, eqb, Some, None, sym, ap, ◌∙◌, inl, inr, ⊎_elim, arith}
use Rattle.std.proofs.lemmas.Bool.{cases_Bool, cases_eq}
use Rattle.std.proofs.lemmas.Grind.{common_steps}
use Rattle.words.specs.Points.{at}
use Rattle.frames.specs.Meaning.{FramesMeaning}
use Rattle.fills.specs.declared.underway.Underway.{Underway}
use Rattle.law.specs.PageMap.{PageMap, frame_at}
use Rattle.law.specs.Law.{Accounted}

-- no page of the map has both a fill under way and a translation
abbrev pub Waiting : PageMap → Type 0
Waiting n = (f : Underway) (p : ℕ) → n.fills p ≡ Some f → n.pages p ≡ None

-- each frame of the map is out, and at one place
pub record Placed (out : ℕ → Bool) (m : PageMap) : Type 0 where
  pub is_out : (f p : ℕ) → frame_at m p ≡ Some f → out f ≡ true
  pub once : (f p q : ℕ) → frame_at m p ≡ Some f → frame_at m q ≡ Some f → p ≡ q

module _ (m n : PageMap) (p f : ℕ) (before now : ℕ → Bool) (d : Placed before m) where
  -- one frame more is out, and the map has it at p
  pub place_taken : frame_at m p ≡ None → before f ≡ false → now ≡ at before f true → ((q : ℕ) → frame_at n q ≡ at (frame_at m) p (Some f) q) → Placed now n
  place_taken none inside o h =
      let outs : (g : ℕ) → now g ≡ cond (eqb g f) true (before g) = λ g. ap (λ k. k g) o in
      record {
        is_out = λ g q e. let og = outs g in let hq = h q in let k = d.is_out g q in grind (arith, common_steps);
        once = λ g q r e i. let hq = h q in let hr = h r in let k = d.once g q r in let x = d.is_out g q in let y = d.is_out g r in grind (arith, common_steps);
      }

  -- the frame that the map has at p comes in
  pub place_given : frame_at m p ≡ Some f → now ≡ at before f false → ((q : ℕ) → frame_at n q ≡ at (frame_at m) p None q) → Placed now n
  place_given some o h =
      let outs : (g : ℕ) → now g ≡ cond (eqb g f) false (before g) = λ g. ap (λ k. k g) o in
      record {
        is_out = λ g q e. let og = outs g in let hq = h q in let k = d.is_out g q in let x = d.once f q p in grind (arith, common_steps);
        once = λ g q r e i. let hq = h q in let hr = h r in let k = d.once g q r in grind (arith, common_steps);
      }

  -- the map has the same frames at the same pages, and as many are out
  pub place_moved : ((q : ℕ) → frame_at n q ≡ frame_at m q) → now ≡ before → Placed now n
  place_moved h o = record {
    is_out = λ g q e. ap (λ k. k g) o ∙ d.is_out g q (sym (h q) ∙ e);
    once = λ g q r e i. d.once g q r (sym (h q) ∙ e) (sym (h r) ∙ i);
  }

module _ {B : Type 0} (k : FramesMeaning B) (start b c : B) (m n : PageMap) (p f : ℕ) (a : Accounted k start m b) (stocks : k.stock c ≡ k.stock b) where
  pub taken : frame_at m p ≡ None → k.out b f ≡ false → k.out c ≡ at (k.out b) f true → ((q : ℕ) → frame_at n q ≡ at (frame_at m) p (Some f) q) → Accounted k start n c
  taken none inside o h =
      let before : k.out start f ≡ false = ⊎_elim (λ t. let i = a.stays f t in grind arith) (λ t. t) (cases_Bool (k.out start f)) in
      let outs : (g : ℕ) → k.out c g ≡ cond (eqb g f) true (k.out b g) = λ g. ap (λ i. i g) o in
      record {
        stock_stays = stocks ∙ a.stock_stays;
        came = λ g e. let og = outs g in ⊎_elim
            (λ s. inr (p, let hp = h p in grind (arith, common_steps)))
            (λ ne. ⊎_elim inl (λ (q, i). inr (q, let hq = h q in grind (arith, common_steps))) (a.came g (grind (arith, common_steps))))
            (cases_eq g f);
        stays = λ g e. let og = outs g in let i = a.stays g e in grind (arith, common_steps);
        own = λ g q e. let hq = h q in let i = a.own g q in grind (arith, common_steps);
      }

  pub given : frame_at m p ≡ Some f → k.out c ≡ at (k.out b) f false → ((q : ℕ) → frame_at n q ≡ at (frame_at m) p None q) → Accounted k start n c
  given some o h =
      let before : k.out start f ≡ false = a.own f p some in
      let outs : (g : ℕ) → k.out c g ≡ cond (eqb g f) false (k.out b g) = λ g. ap (λ i. i g) o in
      record {
        stock_stays = stocks ∙ a.stock_stays;
        came = λ g e. let og = outs g in ⊎_elim inl (λ (q, i). inr (q, let hq = h q in grind (arith, common_steps))) (a.came g (grind (arith, common_steps)));
        stays = λ g e. let og = outs g in let i = a.stays g e in grind (arith, common_steps);
        own = λ g q e. let hq = h q in let i = a.own g q in grind (arith, common_steps);
      }

  pub moved : k.out c ≡ k.out b → ((q : ℕ) → frame_at n q ≡ frame_at m q) → Accounted k start n c
  moved o h = record {
    stock_stays = stocks ∙ a.stock_stays;
    came = λ g e. ⊎_elim inl (λ (q, i). inr (q, h q ∙ i)) (a.came g (sym (ap (λ i. i g) o) ∙ e));
    stays = λ g e. ap (λ i. i g) o ∙ a.stays g e;
    own = λ g q e. a.own g q (sym (h q) ∙ e);
  }
