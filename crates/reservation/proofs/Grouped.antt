-- The groups of a reservation allocator: new ones, what the search for a block's group has found, and when nothing is in.
use Rattle.std.proofs.Common.{◌≡◌, ℕ, Bool, Option, IfSome, MatchOption, ◌-◌, ◌*◌, ◌/◌, ◌%◌, ◌^◌, ◌<◌, ◌≤◌, true, false, not, ◌&&◌, ltb, leb, get_or, replicate, sym, ap, ◌∙◌, subst, ⊎_elim, arith}
use native.Mathlib.Nat.{zero-div}
use Rattle.std.proofs.lemmas.List.{get_or_default, get_or_past, get_or-replicate, length-replicate}
use Rattle.std.proofs.lemmas.Bool.{cases_lt, eq-eqb, eqb-true, both_ways, not-false, not-true, and_from, and_left, and_right, and_parts, ltb-true, lt-ltb, le-ltb, cases_Bool}
use Rattle.std.specs.Bool.{then_some}
use Rattle.words.specs.Layout.{bit, bucket_of, block_of, offset_of}
use Rattle.words.proofs.Flip.{complement_bit, no_bit}
use Rattle.frames.specs.Stock.{first_frame}
use Rattle.reservation.specs.declared.group.Choice.{Choice}
use Rattle.reservation.specs.declared.group.Group.{Group}
use Rattle.reservation.specs.declared.group.Step.TheVariants.{Kept}
use Rattle.reservation.specs.declared.group.Usage.TheVariants.{Open, Broken}
use Rattle.reservation.specs.declared.reservation.ReservationAllocator.{ReservationAllocator}
use Rattle.reservation.specs.Ages.{waits, Oldest}
use Rattle.reservation.specs.Groups.{block_use, nth_group, is_open, is_broken, has_in, waits_in}
use Rattle.reservation.specs.Index.{in_bucket}
use Rattle.reservation.specs.Reservation.{NewReservation, group_of, group_at, offset_at, group_stock, group_out, NoGroup, NoOpen, LowestOpen, NoSpare, NoneIn, OnlyFor, Longest, NoOwn, Rule, Chosen}
use Rattle.reservation.specs.Sets.{has, FirstFrom, NoneFrom}
use Rattle.reservation.proofs.Members.{Tells}
use Rattle.reservation.proofs.Usages.{both_for, not_listed, cases_map, cases_found, by_test}

-- a group that is read
pub group_read : (s : ReservationAllocator) (g : ℕ) (d : Group) → g < 256 → get_or s.groups g d ≡ group_of s g
group_read s g d l = let e = s.all in get_or_default s.groups g d _ (omega arith)

-- what the search among the groups of the block's bucket has found
pub searched : (s : ReservationAllocator) (b : ℕ) (f : ℕ → Bool) (o : Option ℕ) → f ≡ in_bucket s.index (bucket_of b) → Tells f (λ g. block_use b (group_of s g).usage) 0 256 o → MatchOption o (NoGroup s b) (λ g. OnlyFor s b g)
searched s b f o e h = cases_map o _ _ _ _ h
    (λ none g. ⊎_elim
    (λ l. ⊎_elim
    (λ m. none g (omega arith) l m)
    (λ m. not_listed (group_of s g).usage b (sym (s.listed (bucket_of b) g) ∙ ap (λ x. x g) (sym e) ∙ m))
    (cases_Bool (f g)))
    (λ l. let long = s.all in ap (λ x. block_use b x.usage) (get_or_past s.groups g _ (omega arith)))
    (cases_lt g 256))
    (λ g (l, here). record { here = here; only = λ h x. s.single h g (both_for (group_of s h).usage (group_of s g).usage b x here) })

-- where no group has a frame in, every frame of the stock is out
pub full_bit : (k : ℕ) → k < 16 → bit 65535 k ≡ true
full_bit k l = eq-eqb _ 1 (let e = complement_bit 16 0 k (omega arith) l in let z = zero-div (2 ^ k) in omega arith)

pub none_left : (s : ReservationAllocator) → NoneIn s → (f : ℕ) → group_stock s f ≡ true → group_out s f ≡ true
none_left s none f t =
    let e = eqb-true _ 65535 (not-false _ (none (group_at s f))) in
    and_from _ _ t (ap (λ w. bit w (offset_at s f)) e ∙ full_bit (offset_at s f) (omega arith))

-- new groups
abbrev pub open_group : Group
open_group = record { usage = Open; out = record { bits = 0 } }

pub fresh : (P : ℕ → Group → Type 0) → ((k : ℕ) → k < 256 → P k open_group) → ((k : ℕ) → 256 ≤ k → P k (record { usage = Broken; out = record { bits = 65535 } })) → (k : ℕ) → P k (nth_group (replicate 256 open_group) k)
fresh P a b k = ⊎_elim
    (λ l. subst (P k) (sym (get_or-replicate 256 k open_group _ l)) (a k l))
    (λ l. subst (P k) (sym (get_or_past (replicate 256 open_group) k _ (simp length-replicate l))) (b k l))
    (cases_lt k 256)

pub new_in : (n f : ℕ) → ((leb n f && ltb (f - n) 4096) && bit (nth_group (replicate 256 open_group) ((f - n) / 16)).out.bits ((f - n) % 16)) ≡ false
new_in n f = ⊎_elim
    (λ t. let l = ltb-true (f - n) 4096 (and_parts _ _ t).1 in
    and_right _ _ (fresh (λ k x. k < 256 → bit x.out.bits ((f - n) % 16) ≡ false) (λ k a b. no_bit ((f - n) % 16)) (λ k a b. absurd (omega arith)) ((f - n) / 16) (omega arith)))
    (λ e. and_left _ _ e)
    (cases_Bool (leb n f && ltb (f - n) 4096))

-- an allocator of new groups
pub new_groups : (n : ℕ) (u : ReservationAllocator) → u.groups ≡ replicate 256 open_group → first_frame u.stock ≡ 16 * n → NewReservation n u
new_groups n u e first = record {
  first = first;
  vacant = subst (λ gs. (h : ℕ) → is_open (nth_group gs h) ≡ ltb h 256) (sym e) (fresh (λ k x. is_open x ≡ ltb k 256) (λ k l. sym (lt-ltb k 256 l)) (λ k l. sym (le-ltb k 256 l)));
  none = λ f. subst (λ gs. (group_stock u f && bit (nth_group gs (group_at u f)).out.bits (offset_at u f)) ≡ false) (sym e) (new_in (first_frame u.stock) f);
}

-- the lowest of the broken groups with a frame in, as the set has it
pub spare_found : (s : ReservationAllocator) (o : Option ℕ) → MatchOption o (NoneFrom (has s.spare_groups) 0) (λ g. FirstFrom (has s.spare_groups) 0 g) →
    MatchOption o (NoSpare s) (λ g. (is_broken (group_of s g) ≡ true) × (has_in (group_of s g) ≡ true))
spare_found s o h = cases_map o _ _ _ _ h (λ none g. sym (s.spares g) ∙ none g (omega arith)) (λ g f. and_parts _ _ (sym (s.spares g) ∙ f.here))

-- the lowest open group, as the set has it
pub open_found : (s : ReservationAllocator) (o : Option ℕ) → MatchOption o (NoneFrom (has s.open_groups) 0) (λ g. FirstFrom (has s.open_groups) 0 g) →
    MatchOption o (NoOpen s) (λ g. LowestOpen s g)
open_found s o h = cases_map o _ _ _ _ h (λ none g. sym (s.opens g) ∙ none g (omega arith))
    (λ g f. record { here = sym (s.opens g) ∙ f.here; lower = λ k l. sym (s.opens k) ∙ f.before k (omega arith) l })

-- all of its frames are in
pub open_whole : (s : ReservationAllocator) (o : Option ℕ) → MatchOption o (NoneFrom (has s.open_groups) 0) (λ g. FirstFrom (has s.open_groups) 0 g) → IfSome o (λ g. (group_of s g).out.bits ≡ 0)
open_whole s o h = cases_found o _ _ _ h (λ g f. eqb-true _ 0 (sym (s.used g) ∙ sym (s.opens g) ∙ f.here))

-- the group reserved longest ago that has a frame in, as the order has it
pub oldest_found : (s : ReservationAllocator) (o : Option ℕ) → MatchOption o ((g : ℕ) → waits s.order g ≡ false) (λ g. Oldest s.order g) →
    MatchOption o ((g : ℕ) → waits_in (group_of s g) ≡ false) (λ g. Longest s g) × IfSome o (λ g. has_in (group_of s g) ≡ true)
oldest_found s o h = (
  cases_map o _ _ _ _ h (λ none g. sym (s.waiting g) ∙ none g) (λ g f. record { here = sym (s.waiting g) ∙ f.here; first = λ k w ne. f.first k (s.waiting k ∙ w) ne }),
  cases_found o _ _ _ h (λ g f. (and_parts _ _ (sym (s.waiting g) ∙ f.here)).1),
)

-- the group of a page's block gives the frame at the page's offset, or has it out
pub kept_chosen : (s : ReservationAllocator) (p b g : ℕ) (out : Bool) (c : Choice) (o : Option Choice) → o ≡ then_some (not out) c → OnlyFor s b g → b ≡ block_of p →
    c.step ≡ Kept → c.spot.group ≡ g → c.spot.offset.number ≡ offset_of p → out ≡ bit (group_of s g).out.bits c.spot.offset.number →
    MatchOption o (NoOwn s p) (λ x. Chosen s p x)
kept_chosen s p b g out c o given only own step group offset read =
    let here : block_use (block_of p) (group_of s g).usage ≡ true = ap (λ x. block_use x (group_of s g).usage) (sym own) ∙ only.here in
    by_test o (not out) c (NoOwn s p) (Chosen s p) given
    (λ is_out. record {
      kept = λ h used. ap (λ x. bit (group_of s x).out.bits (offset_of p)) (only.only h (ap (λ x. block_use x (group_of s h).usage) own ∙ used))
          ∙ ap (bit (group_of s g).out.bits) (sym offset) ∙ sym read ∙ not-false out is_out;
      reserves = λ none. absurd (both_ways _ (none g) here);
    })
    (λ is_in. record {
      rule = subst (λ x. Rule s p x c.spot.group c.spot.offset.number) (sym step) (ap (λ x. block_use (block_of p) (group_of s x).usage) group ∙ here, offset);
      within = (c.spot.offset.within, ap (λ x. bit (group_of s x).out.bits c.spot.offset.number) group ∙ sym read ∙ not-true out is_in);
    })
