use Rattle.std.proofs.Common.{◌≡◌, true, false, eqb, replicate, refl, ◌∙◌, rules}
use lib.ListN.{length-replicate}
use Rattle.std.proofs.lemmas.Bool.{both_ways, lt-ltb, le-ltb, and_left}
use Rattle.reservation.specs.Ages.{member, waits}
use Rattle.reservation.specs.Groups.{is_open, is_spare, is_reserved, waits_in, bucket_use, same_block, nth_group}
use Rattle.reservation.specs.Index.{in_bucket}
use Rattle.reservation.specs.Sets.{has}
use Rattle.reservation.proofs.Grouped.{fresh, open_group, new_groups}
use Rattle.reservation.proofs.reservation.ReservationAllocator.new.Goals as goal

pub invariant_of-result : goal.invariant_of-result
invariant_of-result c =
    record { all = length-replicate 256 open_group; used = fresh (λ k x. is_open x ≡ eqb x.out.bits 0) (λ k l. refl) (λ k l. refl); single = (λ g h. fresh (λ k x. same_block x.usage (nth_group (replicate 256 open_group) h).usage ≡ true → k ≡ h) (λ k l e. absurd (both_ways false refl e)) (λ k l e. absurd (both_ways false refl e)) g); opens = fresh (λ k x. has c.full.result k ≡ is_open x) (λ k l. c.full.ensures k ∙ lt-ltb k 256 l) (λ k l. c.full.ensures k ∙ le-ltb k 256 l); spares = fresh (λ k x. has c.empty.result k ≡ is_spare x) (λ k l. c.empty.ensures k) (λ k l. c.empty.ensures k); listed = (λ h. fresh (λ k x. in_bucket c.empty-2.result h k ≡ bucket_use h x.usage) (λ k l. c.empty-2.ensures h k) (λ k l. c.empty-2.ensures h k)); ordered = fresh (λ k x. member c.empty-3.result k ≡ is_reserved x) (λ k l. c.empty-3.ensures k) (λ k l. c.empty-3.ensures k); waiting = fresh (λ k x. waits c.empty-3.result k ≡ waits_in x) (λ k l. and_left _ _ (c.empty-3.ensures k)) (λ k l. and_left _ _ (c.empty-3.ensures k)) }

pub returns : goal.returns
returns c = search (rules, new_groups)
