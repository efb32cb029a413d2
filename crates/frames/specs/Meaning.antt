-- What a frame allocator means: its stock of frames, which of them are out, and what each call makes of it.
use Rattle.std.specs.Prelude.{◌≡◌, ℕ, Bool, true, false, List, [], ◌∷◌, Result, MatchResult}
use Rattle.words.specs.Points.{at}
use Rattle.words.specs.Refusals.{First, Accepted}
use Rattle.frames.specs.declared.fault.AllocateFault.{AllocateFault}
use Rattle.frames.specs.declared.fault.FreeFault.{FreeFault}
use Rattle.frames.specs.Faults.{allocate_number, free_number}

pub record FramesMeaning (X : Type 0) : Type 1 where
  pub stock : X → ℕ → Bool
  pub out : X → ℕ → Bool
  -- the exact step of each call, from the allocator before to the allocator after
  pub allocated : X → ℕ → Result ℕ AllocateFault → X → Type 0
  pub freed : X → ℕ → Result (Unit {0}) FreeFault → X → Type 0

module _ {X : Type 0} (stock out : X → ℕ → Bool) where
  -- every frame of the stock is out
  abbrev pub NoneLeft : X → Type 0
  NoneLeft s = (f : ℕ) → stock s f ≡ true → out s f ≡ true

  abbrev pub allocate_refusals : X → List (Type 0 × ℕ)
  allocate_refusals s = (NoneLeft s, 4) ∷ []

  -- a frame that was in goes out, and no other; a refused call leaves out what was out
  abbrev pub Takes : X → Result ℕ AllocateFault → X → Type 0
  Takes s r u = MatchResult r
      (λ f. Accepted (allocate_refusals s) × (stock s f ≡ true) × (out s f ≡ false) × (out u ≡ at (out s) f true))
      (λ e. First (allocate_refusals s) (allocate_number e) × (out u ≡ out s))

module _ {X : Type 0} (out : X → ℕ → Bool) where
  abbrev pub free_refusals : X → ℕ → List (Type 0 × ℕ)
  free_refusals s f = (out s f ≡ false, 12) ∷ []

  -- the frame comes in, and no other; a refused call leaves out what was out
  abbrev pub Gives : X → ℕ → Result (Unit {0}) FreeFault → X → Type 0
  Gives s f r u = MatchResult r
      (λ _. Accepted (free_refusals s f) × (out u ≡ at (out s) f false))
      (λ e. First (free_refusals s f) (free_number e) × (out u ≡ out s))
