use Rattle.std.proofs.Common.{◌≡◌, length, rules}
use Rattle.tlb.proofs.Stores.{Chosen, found, emptied, own_slot, own_row}
use Rattle.tlb.proofs.store.store.Goals as goal
use Rattle.tlb.proofs.store.store.Goals.{in-Some, in-None}

pub returns : goal.returns
returns g c =
    let place = c.make_room.result in
    let row = c.make_room.new.slots in
    let h = c.args.hand.now in
    let zs = c.match-make_room.slots in
    let at = c.match-make_room.at in
    let e = c.match-make_room.hand in
    let chosen : Chosen place row h zs at e =
    elim c.match-make_room.branch [
      | in-Some w ↦ found place row h zs at w.in-Some.at e w.in-Some.is (search rules) (search rules) (search rules)
      | in-None w ↦ emptied place row h zs at e w.in-None.is (search rules) (search rules) (search rules)
    ] in
    let long : length zs ≡ length row = search rules in (
      place,
      row,
      c.take_in.new.slot,
      c.make_room.ensures.step,
      own_slot (λ o. g.S.Enter.taken o c.args.entry c.args.page.number c.args.translation c.take_in.new.slot) row zs h at e c.take_in.new.slot c.index-row-at.result (search rules) place long chosen c.take_in.ensures,
      own_row (λ o. Unit {0}) row zs h at e c.take_in.new.slot c.index-row-at.result (search rules) place chosen,
    )
