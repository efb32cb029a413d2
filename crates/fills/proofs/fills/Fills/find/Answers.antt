use Rattle.std.proofs.Common.{Some, get_or, sym, ap, ◌∙◌}
use Rattle.fills.proofs.Lists.{at_place}
use Rattle.fills.proofs.fills.Fills.find.Goals as goal

pub returns : goal.returns
returns c =
    let s = c.args.self.now in
    let d = c.index-deref-place.result in
    let (l, h) = c.in_ok-place.ensures in
    ap (λ ws. Some (get_or ws c.in_ok-place.place d).underway) c.deref.ensures.0 ∙ sym (at_place s.waiting.items c.in_ok-place.place d c.args.page.number s.once l (h d))
