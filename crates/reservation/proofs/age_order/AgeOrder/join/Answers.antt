use Rattle.std.proofs.Common.{true, ap, ◌∙◌, ap₂}
use Rattle.words.specs.Points.{at}
use Rattle.reservation.specs.Ages.{put_last}
use Rattle.reservation.proofs.age_order.AgeOrder.join.Goals as goal

pub append-requires-clause-new : goal.append-requires-clause-new
append-requires-clause-new c = ap (λ f. f c.args.group) c.make_room.ensures.same.within ∙ c.requires

pub returns : goal.returns
returns c =
    let g = c.args.group in
    let m = c.make_room.ensures.same in
    let a = c.append.ensures in
    record {
      within = a.within ∙ ap (λ f. at f g true) m.within;
      order = a.order ∙ ap₂ (λ o f. put_last o f g) m.order m.within;
      waiting = a.waiting ∙ ap (λ f. at f g c.args.wait) m.waiting;
    }
