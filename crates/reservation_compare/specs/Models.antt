-- What a model of a frame allocator says before the allocator is asked, and what it is afterwards.
use Rattle.std.specs.Prelude.{ℕ, Bool, ◌==◌, List}
use Rattle.std.specs.List.{list_any}
use Rattle.reservation_compare.specs.declared.event.Event.{Event}

pub record ModelMeaning (M : Type 0) : Type 1 where
  -- how a page gets a frame, and the frames of which it gets one; none where the call is to be refused
  pub allowed : M → ℕ → Event → List ℕ → Type 0
  pub out : M → ℕ → Bool
  -- the model after a frame went out for a page, and after one came in
  pub taken : M → ℕ → ℕ → M → Type 0
  pub given : M → ℕ → M → Type 0

-- the frame f is one of these
abbrev pub listed : List ℕ → ℕ → Bool
listed frames f = list_any (λ y. y == f) frames
