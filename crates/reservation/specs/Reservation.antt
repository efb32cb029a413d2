-- What the reservation allocator means, by its groups and the order in which they were reserved.
use Rattle.std.specs.Prelude.{◌≡◌, ℕ, ◌+◌, ◌-◌, ◌*◌, ◌/◌, ◌%◌, ◌<◌, Bool, true, false, ◌&&◌, [], ◌∷◌, MatchBool, MatchResult, ◌≢◌, nat_lt}
use Rattle.words.specs.Layout.{bit, block_of, offset_of}
use Rattle.words.specs.Refusals.{First, Accepted}
use Rattle.frames.specs.Faults.{allocate_number, free_number}
use Rattle.frames.specs.Meaning.{FramesMeaning, free_refusals}
use Rattle.frames.specs.Stock.{first_frame, in_stock}
use Rattle.reservation.specs.declared.group.Choice.{Choice}
use Rattle.reservation.specs.declared.group.Group.{Group}
use Rattle.reservation.specs.declared.group.Step.{Step}
use Rattle.reservation.specs.declared.group.Step.TheVariants.{Kept, Reserves, Spare, Breaks, BreaksOldest}
use Rattle.reservation.specs.declared.group.Usage.{Usage}
use Rattle.reservation.specs.declared.reservation.ReservationAllocator.{ReservationAllocator}
use Rattle.reservation.specs.Ages.{before, put_last, taken_out}
use Rattle.reservation.specs.Groups.{nth_group, is_open, is_reserved, is_broken, is_spare, waits_in, has_in, broken_use, block_use, In, OutAt, Returned}

abbrev pub group_of : ReservationAllocator → ℕ → Group
group_of s g = nth_group s.groups g

-- g and h are reserved, g for longer
abbrev pub older : ReservationAllocator → ℕ → ℕ → Bool
older s = before s.order

-- the frame at the offset k of the group g
abbrev pub frame_at : ReservationAllocator → ℕ → ℕ → ℕ
frame_at s g k = first_frame s.stock + (16 * g + k)

-- which group has the frame f, and at which offset
abbrev pub group_at : ReservationAllocator → ℕ → ℕ
group_at s f = (f - first_frame s.stock) / 16

abbrev pub offset_at : ReservationAllocator → ℕ → ℕ
offset_at s f = (f - first_frame s.stock) % 16

abbrev pub group_stock : ReservationAllocator → ℕ → Bool
group_stock s = in_stock s.stock

abbrev pub group_out : ReservationAllocator → ℕ → Bool
group_out s f = group_stock s f && bit (group_of s (group_at s f)).out.bits (offset_at s f)

-- no group is reserved for the block; none is open; none is broken and has a frame in; none has a frame in
abbrev pub NoGroup : ReservationAllocator → ℕ → Type 0
NoGroup s b = (g : ℕ) → block_use b (group_of s g).usage ≡ false

-- the group g is reserved for the block b, and no other is
pub record OnlyFor (s : ReservationAllocator) (b g : ℕ) : Type 0 where
  pub here : block_use b (group_of s g).usage ≡ true
  pub only : (h : ℕ) → block_use b (group_of s h).usage ≡ true → h ≡ g

abbrev pub NoOpen : ReservationAllocator → Type 0
NoOpen s = (g : ℕ) → is_open (group_of s g) ≡ false

-- the group g is open, and no lower one is
pub record LowestOpen (s : ReservationAllocator) (g : ℕ) : Type 0 where
  pub here : is_open (group_of s g) ≡ true
  pub lower : (h : ℕ) → h < g → is_open (group_of s h) ≡ false

abbrev pub NoSpare : ReservationAllocator → Type 0
NoSpare s = (g : ℕ) → is_spare (group_of s g) ≡ false

abbrev pub NoneIn : ReservationAllocator → Type 0
NoneIn s = (g : ℕ) → has_in (group_of s g) ≡ false

-- the first two steps have no frame for the page: that of its block's group is out; and where its block has no group, none is open
pub record NoOwn (s : ReservationAllocator) (p : ℕ) : Type 0 where
  pub kept : (g : ℕ) → block_use (block_of p) (group_of s g).usage ≡ true → bit (group_of s g).out.bits (offset_of p) ≡ true
  pub reserves : NoGroup s (block_of p) → NoOpen s

-- of the reserved groups with a frame in, g was reserved first
pub record Longest (s : ReservationAllocator) (g : ℕ) : Type 0 where
  pub here : waits_in (group_of s g) ≡ true
  pub first : (h : ℕ) → waits_in (group_of s h) ≡ true → (h ≢ g) → older s g h ≡ true

-- when a step takes a frame of the group g for the page p, at the offset k. In the last three the offset is free, and so is the
-- group in Spare and Breaks
abbrev pub Rule : ReservationAllocator → ℕ → Step → ℕ → ℕ → Type 0
Rule s p Kept g k = (block_use (block_of p) (group_of s g).usage ≡ true) × (k ≡ offset_of p)
Rule s p Reserves g k = NoGroup s (block_of p) × LowestOpen s g × (k ≡ offset_of p)
Rule s p Spare g k = NoOwn s p × (is_broken (group_of s g) ≡ true)
Rule s p Breaks g k = NoOwn s p × NoSpare s × (is_open (group_of s g) ≡ true)
Rule s p BreaksOldest g k = NoOwn s p × NoSpare s × NoOpen s × Longest s g

-- a frame that is in, taken by its step's rule
pub record Chosen (s : ReservationAllocator) (p : ℕ) (c : Choice) : Type 0 where
  pub rule : Rule s p c.step c.spot.group c.spot.offset.number
  pub within : In (group_of s c.spot.group) c.spot.offset.number

-- what a group is used for after a step for the page p
abbrev pub UsedAs : ℕ → Step → Usage → Type 0
UsedAs p Kept x = block_use (block_of p) x ≡ true
UsedAs p Reserves x = block_use (block_of p) x ≡ true
UsedAs p Spare x = broken_use x ≡ true
UsedAs p Breaks x = broken_use x ≡ true
UsedAs p BreaksOldest x = broken_use x ≡ true

-- the order of reservation after a step: a group that is reserved is last, a group that is broken is gone
abbrev pub OrderAfter : ReservationAllocator → Step → ℕ → ReservationAllocator → Type 0
OrderAfter s Kept g u = older u ≡ older s
OrderAfter s Reserves g u = older u ≡ put_last (older s) (λ h. is_reserved (group_of s h)) g
OrderAfter s Spare g u = older u ≡ older s
OrderAfter s Breaks g u = older u ≡ older s
OrderAfter s BreaksOldest g u = older u ≡ taken_out (older s) g

-- only the group g is another
pub record OnlyGroup (s : ReservationAllocator) (g : ℕ) (u : ReservationAllocator) : Type 0 where
  pub stock : u.stock ≡ s.stock
  pub others : (h : ℕ) → (h ≢ g) → group_of u h ≡ group_of s h

-- the choice c was carried out for the page p, and gave the frame f
pub record Taken (s : ReservationAllocator) (p : ℕ) (c : Choice) (f : ℕ) (u : ReservationAllocator) : Type 0 where
  pub frame : f ≡ frame_at s c.spot.group c.spot.offset.number
  pub only : OnlyGroup s c.spot.group u
  pub out : OutAt (group_of s c.spot.group) c.spot.offset.number true (group_of u c.spot.group)
  pub usage : UsedAs p c.step (group_of u c.spot.group).usage
  pub order : OrderAfter s c.step c.spot.group u

-- the frame at the offset k of the group g came in; a group that opens leaves the order
pub record CameIn (s : ReservationAllocator) (g k : ℕ) (u : ReservationAllocator) : Type 0 where
  pub only : OnlyGroup s g u
  pub returned : Returned (group_of s g) k (group_of u g)
  pub order : MatchBool (is_open (group_of u g)) (older u ≡ taken_out (older s) g) (older u ≡ older s)

-- a frame goes out by a choice for its page, and comes in to its group; a refused call changes nothing
abbrev pub reservation : FramesMeaning ReservationAllocator
reservation = record {
  stock = group_stock;
  out = group_out;
  allocated = λ s p r u. MatchResult r
      (λ f. (c : Choice) × Chosen s p c × Taken s p c f u)
      (λ e. First ((NoneIn s, 4) ∷ []) (allocate_number e) × (u ≡ s));
  freed = λ s f r u. MatchResult r
      (λ _. Accepted (free_refusals group_out s f) × CameIn s (group_at s f) (offset_at s f) u)
      (λ e. First (free_refusals group_out s f) (free_number e) × (u ≡ s));
}

-- a new allocator has the frames from 16 * g on, and every group is open
pub record NewReservation (g : ℕ) (u : ReservationAllocator) : Type 0 where
  pub first : first_frame u.stock ≡ 16 * g
  pub vacant : (h : ℕ) → is_open (group_of u h) ≡ nat_lt h 256
  pub none : (f : ℕ) → group_out u f ≡ false
