-- The reserved groups, by the bucket of their block.
use Rattle.std.specs.Prelude.{◌≡◌, ℕ, zero, suc, ◌-◌, Bool, true, false, List, [], ◌∷◌, filter, ◌≢◌}
use Rattle.std.specs.List.{range_with_len}
use Rattle.words.specs.Points.{at}
use Rattle.reservation.specs.declared.bit_set.BitSet.{BitSet}
use Rattle.reservation.specs.declared.block_index.BlockIndex.{BlockIndex}
use Rattle.reservation.specs.declared.block_index.Groups.{Groups}
use Rattle.reservation.specs.declared.group.Usage.{Usage}
use Rattle.reservation.specs.Groups.{bucket_use}
use Rattle.reservation.specs.Sets.{has}

-- what the set number h of a row has
abbrev pub nth_has : {n : ℕ} → List (BitSet n) → ℕ → ℕ → Bool
nth_has [] h k = false
nth_has (s ∷ ss) zero k = has s k
nth_has (s ∷ ss) (suc h) k = nth_has ss h k

-- the group k is in the bucket h
abbrev pub in_bucket : BlockIndex → ℕ → ℕ → Bool
in_bucket x = nth_has x.buckets

-- of the n numbers from a on, those that pass the test
unfoldable pub passing : (ℕ → Bool) → ℕ → ℕ → List ℕ
passing test a n = filter test (range_with_len a n)

-- the groups that are still to come, the lowest first
abbrev pub groups_left : Groups → List ℕ
groups_left x = passing (has x.bucket.now) x.from (256 - x.from)

-- the group g is in the bucket of its block, where it has one, and in no other
abbrev pub ListedAs : BlockIndex → ℕ → Usage → Type 0
ListedAs x g u = (h : ℕ) → in_bucket x h g ≡ bucket_use h u

-- only the group g may be in other buckets than before
abbrev pub OthersListed : BlockIndex → ℕ → BlockIndex → Type 0
OthersListed x g y = (h k : ℕ) → (k ≢ g) → in_bucket y h k ≡ in_bucket x h k

-- a set with the group g in or out, where the test says so
abbrev pub put_in : Bool → (ℕ → Bool) → ℕ → Bool → ℕ → Bool
put_in true f g on = at f g on
put_in false f g on = f
