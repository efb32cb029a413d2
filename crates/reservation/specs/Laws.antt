-- What the steps come to: frames at their pages' offsets.
use Rattle.std.specs.Prelude.{◌≡◌, ℕ, ◌%◌, Bool, true, false, Ok, Err, Result}
use Rattle.words.specs.Layout.{block_of, offset_of}
use Rattle.frames.specs.declared.fault.AllocateFault.{AllocateFault}
use Rattle.frames.specs.declared.fault.FreeFault.{FreeFault}
use Rattle.reservation.specs.declared.group.Choice.{Choice}
use Rattle.reservation.specs.declared.group.Step.{Step}
use Rattle.reservation.specs.declared.group.Step.TheVariants.{Kept, Reserves, Spare, Breaks, BreaksOldest}
use Rattle.reservation.specs.declared.reservation.ReservationAllocator.{ReservationAllocator}
use Rattle.reservation.specs.Groups.{is_open, block_use}
use Rattle.reservation.specs.Reservation.{reservation, group_of, group_at, older, NoGroup, Chosen, Taken}

-- the first two steps
abbrev pub own_group : Step → Bool
own_group Kept = true
own_group Reserves = true
own_group Spare = false
own_group Breaks = false
own_group BreaksOldest = false

abbrev pub last_step : Step → Bool
last_step Kept = false
last_step Reserves = false
last_step Spare = false
last_step Breaks = false
last_step BreaksOldest = true

-- a frame of the first two steps has its page's offset
abbrev pub KeptAtOffset : Type 0
KeptAtOffset = (s u : ReservationAllocator) (p f : ℕ) (c : Choice) → Chosen s p c → Taken s p c f u
    → own_group c.step ≡ true → f % 16 ≡ offset_of p

-- while a group is open, a page whose block has no group gets a frame, at its offset, of a group that is then reserved for its block
abbrev pub OpenGroupGivesOffset : Type 0
OpenGroupGivesOffset = (s u : ReservationAllocator) (p g : ℕ) (r : Result ℕ AllocateFault)
    → is_open (group_of s g) ≡ true → NoGroup s (block_of p) → reservation.allocated s p r u
    → (f : ℕ) × (r ≡ Ok f) × (f % 16 ≡ offset_of p) × (block_use (block_of p) (group_of u (group_at s f)).usage ≡ true)

-- one frame
pub record SameSpot (c d : Choice) : Type 0 where
  pub group : c.spot.group ≡ d.spot.group
  pub offset : c.spot.offset.number ≡ d.spot.offset.number

-- two choices for a page go by one step; in the first two steps they are one frame, and in the last one group
pub record Agree (c d : Choice) : Type 0 where
  pub step : c.step ≡ d.step
  pub spot : own_group c.step ≡ true → SameSpot c d
  pub oldest : last_step c.step ≡ true → c.spot.group ≡ d.spot.group

-- one stock, the same groups, and one order of reservation
pub record SameState (u v : ReservationAllocator) : Type 0 where
  pub stock : u.stock ≡ v.stock
  pub groups : group_of u ≡ group_of v
  pub order : older u ≡ older v

-- From one state, be it of one allocator or of two, a call has one answer and leaves one state, but for what the rules do not determine: which
-- frame in the last three steps, and of which group in Spare and Breaks.
pub record Determined : Type 0 where
  pub choices : (s t : ReservationAllocator) (p : ℕ) (c d : Choice) → SameState s t → Chosen s p c → Chosen t p d → Agree c d
  pub taken : (s t u v : ReservationAllocator) (p f g : ℕ) (c d : Choice) → SameState s t → Chosen s p c → Chosen t p d → SameSpot c d
      → Taken s p c f u → Taken t p d g v → (f ≡ g) × SameState u v
  pub refused : (s t u v : ReservationAllocator) (p : ℕ) (e : AllocateFault) (r : Result ℕ AllocateFault) → SameState s t
      → reservation.allocated s p (Err e) u → reservation.allocated t p r v → (r ≡ Err e) × SameState u v
  pub freed : (s t u v : ReservationAllocator) (f : ℕ) (r q : Result (Unit {0}) FreeFault) → SameState s t
      → reservation.freed s f r u → reservation.freed t f q v → (r ≡ q) × SameState u v
