use Rattle.std.proofs.Common.{◌≡◌, ℕ, ◌-◌, Option, None, Some, sym, refl, ap, ◌∙◌, subst, rules, tests, arith}
use Rattle.std.specs.List.{find}
use Rattle.std.specs.Option.{option_map}
use Rattle.std.proofs.lemmas.Iterator.Consumers.{YieldsList-from_first}
use Rattle.std.proofs.lemmas.Iterator.Search.{find_from_yields_List}
use Rattle.reservation.specs.Groups.{block_use}
use Rattle.reservation.specs.Index.{groups_left, passing}
use Rattle.reservation.specs.Reservation.{group_of}
use Rattle.reservation.specs.Sets.{has}
use Rattle.reservation.proofs.Grouped.{searched}
use Rattle.reservation.proofs.Members.{Tells, found}
use Rattle.reservation.proofs.reservation.ReservationAllocator.group_for.Goals as goal

-- an item that is shown as it is
same_option : (o : Option ℕ) → option_map (λ x. x) o ≡ o
same_option None = refl
same_option (Some x) = refl

pub returns : goal.returns
returns c =
    let s = c.args.self.now in
    let test = λ (g : ℕ). block_use c.args.block.number (group_of s g).usage in
    let bucket = has c.groups.result.bucket.now in
    let all = ap (λ a. passing bucket a (256 - a)) c.groups.ensures.all in
    let by_call = find_from_yields_List test c.find.new.self _ c.find.result c.find.ensures.ran (YieldsList-from_first (λ x. x) groups_left (passing bucket 0 256) all) (λ x b q k. search (rules, tests)) in
    let same : c.find.result ≡ find test (passing bucket 0 256) = sym (same_option c.find.result) ∙ by_call in
    searched s c.args.block.number bucket c.find.result c.groups.ensures.bucket (subst (Tells _ _ 0 256) (sym same) (found bucket test 0 256 256 (omega arith)))
