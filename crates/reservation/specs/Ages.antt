-- The order in which groups were reserved, and which of them wait.
use Rattle.std.specs.Prelude.{◌≡◌, ℕ, ◌≤◌, Bool, true, false, cond, not, ◌&&◌, Option, None, Some, MatchBool, ◌==◌, ◌≢◌, nat_lt, slice_index, slice_index_or}
use Rattle.std.specs.Option.{is_some, unwrap_or}
use Rattle.words.specs.Points.{at}
use Rattle.reservation.specs.declared.age_order.AgeOrder.{AgeOrder}
use Rattle.reservation.specs.Sets.{has}

-- the rank of the group, where it is in the order
abbrev pub rank_in : AgeOrder → ℕ → Option ℕ
rank_in a g = slice_index_or a.ranks g None

-- the group is in the order
abbrev pub member : AgeOrder → ℕ → Bool
member a g = is_some (rank_in a g)

abbrev pub rank_of : AgeOrder → ℕ → ℕ
rank_of a g = unwrap_or (rank_in a g) 0

-- both groups are in the order, g before h
abbrev pub before : AgeOrder → ℕ → ℕ → Bool
before a g h = (member a g && member a h) && nat_lt (rank_of a g) (rank_of a h)

-- the group is in the order and waits
abbrev pub waits : AgeOrder → ℕ → Bool
waits a g = member a g && has a.waiting (rank_of a g)

-- a group of the order has the rank p
abbrev pub taken : AgeOrder → ℕ → Bool
taken a p = member a (slice_index a.groups.items p) && rank_of a (slice_index a.groups.items p) == p

-- no group of the order has a rank from n on but below p
abbrev pub Gap : AgeOrder → ℕ → ℕ → Type 0
Gap a n p = (g : ℕ) → member a g ≡ true → n ≤ rank_of a g → p ≤ rank_of a g

-- an order of groups, with the group g put last, or taken out
abbrev pub put_last : (ℕ → ℕ → Bool) → (ℕ → Bool) → ℕ → ℕ → ℕ → Bool
put_last order within g a b = cond (b == g) (within a) (order a b)

abbrev pub taken_out : (ℕ → ℕ → Bool) → ℕ → ℕ → ℕ → Bool
taken_out order g a b = order a b && (not (a == g) && not (b == g))

-- the group waits, and every other group that waits is younger
pub record Oldest (a : AgeOrder) (g : ℕ) : Type 0 where
  pub here : waits a g ≡ true
  pub first : (h : ℕ) → waits a h ≡ true → (h ≢ g) → before a g h ≡ true

-- the same groups are in the order, one before the other as they were, and the same wait
pub record SameOrder (a b : AgeOrder) : Type 0 where
  pub within : member b ≡ member a
  pub order : before b ≡ before a
  pub waiting : waits b ≡ waits a

-- the group joins at the end
pub record Joins (a : AgeOrder) (g : ℕ) (wait : Bool) (b : AgeOrder) : Type 0 where
  pub within : member b ≡ at (member a) g true
  pub order : before b ≡ put_last (before a) (member a) g
  pub waiting : waits b ≡ at (waits a) g wait

-- the group stays where it is
pub record Stays (a : AgeOrder) (g : ℕ) (wait : Bool) (b : AgeOrder) : Type 0 where
  pub within : member b ≡ at (member a) g true
  pub order : before b ≡ before a
  pub waiting : waits b ≡ at (waits a) g wait

-- the group leaves
pub record Leaves (a : AgeOrder) (g : ℕ) (b : AgeOrder) : Type 0 where
  pub within : member b ≡ at (member a) g false
  pub order : before b ≡ taken_out (before a) g
  pub waiting : waits b ≡ at (waits a) g false

-- a group whose turn can come joins at the end or stays where it is; any other leaves
abbrev pub Updated : AgeOrder → ℕ → Option Bool → AgeOrder → Type 0
Updated a g (Some wait) b = MatchBool (member a g) (Stays a g wait b) (Joins a g wait b)
Updated a g None b = Leaves a g b
