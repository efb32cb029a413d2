-- A group of sixteen frames.
use Rattle.std.specs.Prelude.{◌≡◌, ℕ, ◌<◌, Bool, true, false, not, ◌&&◌, List, Option, MatchBool, ◌==◌, slice_index_or}
use Rattle.std.specs.Bool.{then_some}
use Rattle.words.specs.Layout.{bit, bucket_of}
use Rattle.words.specs.Points.{at}
use Rattle.reservation.specs.declared.group.Group.{Group}
use Rattle.reservation.specs.declared.group.Usage.{Usage}
use Rattle.reservation.specs.declared.group.Usage.TheVariants.{Open, Reserved, Broken}

-- by what a group is used for
abbrev pub open_use : Usage → Bool
open_use Open = true
open_use (Reserved b) = false
open_use Broken = false

abbrev pub reserved_use : Usage → Bool
reserved_use Open = false
reserved_use (Reserved b) = true
reserved_use Broken = false

abbrev pub broken_use : Usage → Bool
broken_use Open = false
broken_use (Reserved b) = false
broken_use Broken = true

-- reserved for the block of the number
abbrev pub block_use : ℕ → Usage → Bool
block_use n Open = false
block_use n (Reserved b) = b.number == n
block_use n Broken = false

-- reserved for a block of the bucket h
abbrev pub bucket_use : ℕ → Usage → Bool
bucket_use h Open = false
bucket_use h (Reserved b) = bucket_of b.number == h
bucket_use h Broken = false

-- both reserved, and for one block
abbrev pub same_block : Usage → Usage → Bool
same_block Open v = false
same_block (Reserved b) v = block_use b.number v
same_block Broken v = false

abbrev pub is_open : Group → Bool
is_open g = open_use g.usage

abbrev pub is_reserved : Group → Bool
is_reserved g = reserved_use g.usage

abbrev pub is_broken : Group → Bool
is_broken g = broken_use g.usage

-- not all of the sixteen frames are out
abbrev pub has_in : Group → Bool
has_in g = not (g.out.bits == 65535)

abbrev pub is_spare : Group → Bool
is_spare g = is_broken g && has_in g

abbrev pub waits_in : Group → Bool
waits_in g = is_reserved g && has_in g

-- whether a group waits for its turn to give a frame, where it is reserved
abbrev pub turn_of : Group → Option Bool
turn_of g = then_some (is_reserved g) (has_in g)

-- the frame at the offset k is in
abbrev pub In : Group → ℕ → Type 0
In g k = (k < 16) × (bit g.out.bits k ≡ false)

-- the group g of a row; past the last there is nothing to take
abbrev pub nth_group : List Group → ℕ → Group
nth_group gs g = slice_index_or gs g (record { usage = Broken; out = record { bits = 65535 } })

-- just the frame at the offset k went out, or came in
abbrev pub OutAt : Group → ℕ → Bool → Group → Type 0
OutAt g k b h = bit h.out.bits ≡ at (bit g.out.bits) k b

-- the frame at the offset k came in: where all are in, the group is open, else it is used as before
pub record Returned (g : Group) (k : ℕ) (h : Group) : Type 0 where
  pub out : OutAt g k false h
  pub usage : MatchBool (h.out.bits == 0) (is_open h ≡ true) (h.usage ≡ g.usage)
