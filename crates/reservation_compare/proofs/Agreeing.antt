-- One call more on which an allocator and its model agree, and one on which they do not.
use Rattle.std.proofs.Common.{◌≡◌, ◌+◌, List, [], MatchResult, Result, Ok, Err, length, sym, ap, ◌∙◌, subst}
use Rattle.std.proofs.lemmas.List.{length_push}
use Rattle.frames.specs.Meaning.{FramesMeaning}
use Rattle.reservation_compare.specs.declared.calls.Call.{Call}
use Rattle.reservation_compare.specs.declared.event.Outcome.{Outcome}
use Rattle.reservation_compare.specs.declared.fault.Stop.{Stop}
use Rattle.reservation_compare.specs.Agreement.{Disagrees, Noted, Stopped, FirstDiffers, Agreed, start, further}
use Rattle.reservation_compare.specs.Models.{ModelMeaning}

module _ {A M : Type 0} (k : FramesMeaning A) (m : ModelMeaning M) where
  pub none_yet : (a : A) (n : M) (es : List Outcome) → es ≡ [] → Agreed k m a n es a n
  none_yet a n es e = subst (λ xs. Agreed k m a n xs a n) (sym e) start

  pub one_more : (a : A) (n : M) (es xs : List Outcome) (b : A) (o : M) (call : Call) (c : A) (q : M) → Agreed k m a n es b o → Noted k m b o call es c q xs
      → (length xs ≡ length es + 1) × Agreed k m a n xs c q
  one_more a n es xs b o call c q d (e, agree, is) = (ap length is ∙ length_push es e, subst (λ ys. Agreed k m a n ys c q) (sym is) (further es b o call e c q d agree))

  pub first_stop : (a : A) (n : M) (es : List Outcome) (b : A) (o : M) (call : Call) (stop : Stop) → Agreed k m a n es b o → Stopped k m b o call es stop → FirstDiffers k m a n stop
  first_stop a n es b o call stop d why f =
      let (own, before, differs) = why f in
      (es, b, o, d, sym before, subst (Disagrees k m b o) (sym own) differs)

pub at_ok : {X E : Type 0} (P : X → Type 0) (Q : E → Type 0) (r : Result X E) (x : X) → MatchResult r P Q → r ≡ Ok x → P x
at_ok P Q r x h e = subst (λ y. MatchResult y P Q) e h

pub at_err : {X E : Type 0} (P : X → Type 0) (Q : E → Type 0) (r : Result X E) (x : E) → MatchResult r P Q → r ≡ Err x → Q x
at_err P Q r x h e = subst (λ y. MatchResult y P Q) e h

pub as_err : {X E : Type 0} (P : X → Type 0) (Q : E → Type 0) (r : Result X E) (x : E) → r ≡ Err x → Q x → MatchResult r P Q
as_err P Q r x e h = subst (λ y. MatchResult y P Q) (sym e) h
