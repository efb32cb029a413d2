-- The group n is written, as the number i of the row: what an allocator keeps of its groups, afterwards.
use Rattle.std.proofs.Common.{◌≡◌, ℕ, ◌<◌, Bool, true, eqb, set, sym, refl, ap, ◌∙◌, subst, arith}
use Rattle.words.specs.Points.{at}
use Rattle.reservation.specs.declared.age_order.AgeOrder.{AgeOrder}
use Rattle.reservation.specs.declared.bit_set.BitSet.{BitSet}
use Rattle.reservation.specs.declared.block_index.BlockIndex.{BlockIndex}
use Rattle.reservation.specs.declared.group.Group.{Group}
use Rattle.reservation.specs.declared.reservation.ReservationAllocator.{ReservationAllocator}
use Rattle.reservation.specs.Ages.{member, waits, Updated}
use Rattle.reservation.specs.Groups.{nth_group, is_open, is_spare, is_reserved, waits_in, turn_of, bucket_use, same_block}
use Rattle.reservation.specs.Index.{in_bucket, ListedAs, OthersListed}
use Rattle.reservation.specs.Reservation.{group_of}
use Rattle.reservation.specs.Sets.{has}
use Rattle.reservation.proofs.Ranks.{at_each}
use Rattle.reservation.proofs.Stored.{nth_set, kept_flag, kept_single, within_after, waiting_after}

abbrev after : ReservationAllocator → ℕ → Group → ℕ → Group
after s i x = nth_group (set s.groups i x)

module _ (s : ReservationAllocator) where
  pub written_group : (i n : ℕ) (x : Group) → i ≡ n → n < 256 → after s i x ≡ at (group_of s) n x
  written_group i n x e l = let long = s.all in nth_set s.groups i x (omega arith) ∙ ap (λ k. at (group_of s) k x) e

  -- what holds of the written group, and of each other one
  each : (P : (ℕ → Group) → Type 0) (i n : ℕ) (x : Group) → i ≡ n → n < 256 → P (at (group_of s) n x) → P (after s i x)
  each P i n x e l h = subst P (sym (written_group i n x e l)) h

  pub kept_used : (i n : ℕ) (x : Group) → i ≡ n → n < 256 → is_open x ≡ eqb x.out.bits 0 → (g : ℕ) → is_open (after s i x g) ≡ eqb (after s i x g).out.bits 0
  kept_used i n x e l h = each (λ f. (g : ℕ) → is_open (f g) ≡ eqb (f g).out.bits 0) i n x e l (at_each (λ k v. is_open v ≡ eqb v.out.bits 0) (group_of s) n x h (λ k ne. s.used k))

  pub kept_alone : (i n : ℕ) (x : Group) → i ≡ n → n < 256 → ((h : ℕ) → same_block x.usage (group_of s h).usage ≡ true → h ≡ n) →
      (g h : ℕ) → same_block (after s i x g).usage (after s i x h).usage ≡ true → g ≡ h
  kept_alone i n x e l alone = each (λ f. (g h : ℕ) → same_block (f g).usage (f h).usage ≡ true → g ≡ h) i n x e l (kept_single (group_of s) n x s.single alone)

  pub kept_open : (t : BitSet 4) (i n : ℕ) (x : Group) (b : Bool) → has t ≡ at (has s.open_groups) i b → b ≡ is_open x → i ≡ n → n < 256 → (g : ℕ) → has t g ≡ is_open (after s i x g)
  kept_open t i n x b put is e l = each (λ f. (g : ℕ) → has t g ≡ is_open (f g)) i n x e l
      (kept_flag is_open _ _ (group_of s) n x b (put ∙ ap (λ k. at (has s.open_groups) k b) e) is s.opens)

  pub kept_spare : (t : BitSet 4) (i n : ℕ) (x : Group) (b : Bool) → has t ≡ at (has s.spare_groups) i b → b ≡ is_spare x → i ≡ n → n < 256 → (g : ℕ) → has t g ≡ is_spare (after s i x g)
  kept_spare t i n x b put is e l = each (λ f. (g : ℕ) → has t g ≡ is_spare (f g)) i n x e l
      (kept_flag is_spare _ _ (group_of s) n x b (put ∙ ap (λ k. at (has s.spare_groups) k b) e) is s.spares)

  pub kept_listed : (y : BlockIndex) (i n : ℕ) (x : Group) → i ≡ n → n < 256 → ListedAs y n x.usage → OthersListed s.index n y → (h g : ℕ) → in_bucket y h g ≡ bucket_use h (after s i x g).usage
  kept_listed y i n x e l own others h g = each (λ f. (g h : ℕ) → in_bucket y h g ≡ bucket_use h (f g).usage) i n x e l
      (at_each (λ k v. (h : ℕ) → in_bucket y h k ≡ bucket_use h v.usage) (group_of s) n x own (λ k ne h. others h k ne ∙ s.listed h k)) g h

  pub kept_ordered : (a : AgeOrder) (i n : ℕ) (x : Group) → i ≡ n → n < 256 → Updated s.order n (turn_of x) a → (g : ℕ) → member a g ≡ is_reserved (after s i x g)
  kept_ordered a i n x e l u = each (λ f. (g : ℕ) → member a g ≡ is_reserved (f g)) i n x e l (kept_flag is_reserved _ _ (group_of s) n x _ (within_after s.order a n x u) refl s.ordered)

  pub kept_waiting : (a : AgeOrder) (i n : ℕ) (x : Group) → i ≡ n → n < 256 → Updated s.order n (turn_of x) a → (g : ℕ) → waits a g ≡ waits_in (after s i x g)
  kept_waiting a i n x e l u = each (λ f. (g : ℕ) → waits a g ≡ waits_in (f g)) i n x e l (kept_flag waits_in _ _ (group_of s) n x _ (waiting_after s.order a n x u) refl s.waiting)
