-- Frames at their pages' offsets.
use Rattle.std.proofs.Common.{◌≡◌, ℕ, true, false, Ok, Err, sym, refl, ap, ◌∙◌, subst, arith}
use Rattle.std.proofs.lemmas.Bool.{both_ways, eqb-true, not-false}
use Rattle.words.specs.Layout.{block_of, offset_of}
use Rattle.frames.specs.declared.fault.AllocateFault.TheVariants.{AllOut}
use Rattle.reservation.specs.declared.group.Step.{Step}
use Rattle.reservation.specs.declared.group.Step.TheVariants.{Kept, Reserves, Spare, Breaks, BreaksOldest}
use Rattle.reservation.specs.declared.reservation.ReservationAllocator.{ReservationAllocator}
use Rattle.reservation.specs.Groups.{is_open, block_use}
use Rattle.reservation.specs.Laws.{own_group, KeptAtOffset, OpenGroupGivesOffset}
use Rattle.reservation.specs.Reservation.{group_of, group_at, NoGroup, Rule, UsedAs}
use Rattle.reservation.proofs.Stored.{frame_group}

own_offset : (s : ReservationAllocator) (p : ℕ) (t : Step) (g k : ℕ) → Rule s p t g k → own_group t ≡ true → k ≡ offset_of p
own_offset s p Kept g k r e = r.1
own_offset s p Reserves g k r e = r.2
own_offset s p Spare g k r e = absurd (both_ways false refl e)
own_offset s p Breaks g k r e = absurd (both_ways false refl e)
own_offset s p BreaksOldest g k r e = absurd (both_ways false refl e)

pub kept_at_offset : KeptAtOffset
kept_at_offset s u p f c chosen taken own =
    let e = own_offset s p c.step c.spot.group c.spot.offset.number chosen.rule own in
    let d = taken.frame in
    let w = s.stock.whole in
    omega arith

-- a page that has an open group to take cannot be no_own
reserving : (s : ReservationAllocator) (p g : ℕ) (t : Step) (h k : ℕ) → is_open (group_of s g) ≡ true → NoGroup s (block_of p) → Rule s p t h k → t ≡ Reserves
reserving s p g Kept h k o none r = absurd (both_ways _ (none h) r.0)
reserving s p g Reserves h k o none r = refl
reserving s p g Spare h k o none r = absurd (both_ways _ (r.0.reserves none g) o)
reserving s p g Breaks h k o none r = absurd (both_ways _ (r.0.reserves none g) o)
reserving s p g BreaksOldest h k o none r = absurd (both_ways _ (r.0.reserves none g) o)

pub open_group_gives_offset : OpenGroupGivesOffset
open_group_gives_offset s u p g (Ok f) o none (c, chosen, taken) =
    let t = reserving s p g c.step c.spot.group c.spot.offset.number o none chosen.rule in
    let e : group_at s f ≡ c.spot.group = ap (group_at s) taken.frame ∙ frame_group s c.spot.group c.spot.offset.number chosen.within.0 in (
      f,
      refl,
      kept_at_offset s u p f c chosen taken (ap own_group t),
      ap (λ x. block_use (block_of p) (group_of u x).usage) e ∙ subst (λ x. UsedAs p x (group_of u c.spot.group).usage) t taken.usage,
    )
open_group_gives_offset s u p g (Err AllOut) o none (all, same) = absurd (
    let z = eqb-true (group_of s g).out.bits 0 (sym (s.used g) ∙ o) in
    let l = eqb-true (group_of s g).out.bits 65535 (not-false _ (all g)) in
    omega arith)
