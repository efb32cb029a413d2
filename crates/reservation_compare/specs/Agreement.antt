-- An allocator and a model of it, asked alike.
use Rattle.std.specs.Prelude.{◌≡◌, ◌≢◌, ℕ, true, false, List, [], ◌∷◌, ◌++◌, Result, MatchResult, length}
use Rattle.frames.specs.declared.fault.AllocateFault.{AllocateFault}
use Rattle.frames.specs.declared.fault.FreeFault.{FreeFault}
use Rattle.frames.specs.Meaning.{FramesMeaning}
use Rattle.reservation_compare.specs.declared.calls.Call.{Call}
use Rattle.reservation_compare.specs.declared.calls.Call.TheVariants.{Allocate, Free}
use Rattle.reservation_compare.specs.declared.event.Event.{Event}
use Rattle.reservation_compare.specs.declared.event.Outcome.{Outcome}
use Rattle.reservation_compare.specs.declared.event.Event.TheVariants.{Freed, NotOut}
use Rattle.reservation_compare.specs.declared.fault.Fault.{Fault}
use Rattle.reservation_compare.specs.declared.fault.Fault.TheVariants.{Differs}
use Rattle.reservation_compare.specs.declared.fault.Stop.{Stop}
use Rattle.reservation_compare.specs.Models.{ModelMeaning, listed}

-- the answer is one of the frames, or a refusal where there is none
abbrev pub Fits : List ℕ → Result ℕ AllocateFault → Type 0
Fits frames r = MatchResult r (λ f. listed frames f ≡ true) (λ _. frames ≡ [])

abbrev pub Misfits : List ℕ → Result ℕ AllocateFault → Type 0
Misfits frames r = MatchResult r (λ f. listed frames f ≡ false) (λ _. frames ≢ [])

-- no frame was chosen
abbrev pub without_choice : Event → Outcome
without_choice e = record { event = e; allowed = 0 }

module _ {A M : Type 0} (k : FramesMeaning A) (m : ModelMeaning M) where
  -- the allocator a and the model n agree on a call, of which e came, and are then b and o
  abbrev pub Agrees : A → M → Call → Outcome → A → M → Type 0
  Agrees a n (Allocate p) e b o =
      (frames : List ℕ) × (r : Result ℕ AllocateFault) × m.allowed n p e.event frames × (e.allowed ≡ length frames) × k.allocated a p r b × Fits frames r
      × MatchResult r (λ f. m.taken n p f o) (λ _. o ≡ n)
  Agrees a n (Free f) e b o = (r : Result (Unit {0}) FreeFault) × k.freed a f r b
      × MatchResult r (λ _. (m.out n f ≡ true) × (e ≡ without_choice Freed) × m.given n f o) (λ _. (m.out n f ≡ false) × (e ≡ without_choice NotOut) × (o ≡ n))

  -- they do not
  abbrev pub Disagrees : A → M → Call → Type 0
  Disagrees a n (Allocate p) = (e : Event) × (frames : List ℕ) × (r : Result ℕ AllocateFault) × (b : A)
      × m.allowed n p e frames × k.allocated a p r b × Misfits frames r
  Disagrees a n (Free f) = (r : Result (Unit {0}) FreeFault) × (b : A) × k.freed a f r b
      × MatchResult r (λ _. m.out n f ≡ false) (λ _. m.out n f ≡ true)

  -- what comes of a call: an outcome on which they agree; a fault, which is `Differs` only where they do not
  abbrev pub Compared : A → M → Call → Result Outcome Fault → A → M → Type 0
  Compared a n call r b o = MatchResult r (λ e. Agrees a n call e b o) (λ fault. fault ≡ Differs → Disagrees a n call)

  -- the outcomes xs are those of es and one on which they agree
  abbrev pub Noted : A → M → Call → List Outcome → A → M → List Outcome → Type 0
  Noted a n call es b o xs = (e : Outcome) × Agrees a n call e b o × (xs ≡ es ++ e ∷ [])

  -- the fault at a call after the outcomes es
  abbrev pub Stopped : A → M → Call → List Outcome → Stop → Type 0
  Stopped a n call es stop = stop.fault ≡ Differs → (stop.call ≡ call) × (stop.before ≡ length es) × Disagrees a n call

  -- from a and n on they agree on calls with these outcomes, one after the other, and are then b and o
  pub data Agreed (a : A) (n : M) : List Outcome → A → M → Type 0 where
    start : Agreed a n [] a n
    further : (es : List Outcome) (b : A) (o : M) (call : Call) (e : Outcome) (c : A) (q : M)
        → Agreed a n es b o → Agrees b o call e c q → Agreed a n (es ++ e ∷ []) c q

  abbrev pub AllAgreed : A → M → List Outcome → Type 0
  AllAgreed a n es = (b : A) × (o : M) × Agreed a n es b o

  -- they agree on so many calls, and do not on the next
  abbrev pub FirstDiffers : A → M → Stop → Type 0
  FirstDiffers a n stop = stop.fault ≡ Differs → (es : List Outcome) × (b : A) × (o : M)
      × Agreed a n es b o × (length es ≡ stop.before) × Disagrees b o stop.call
