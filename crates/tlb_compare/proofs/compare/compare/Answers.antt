use Rattle.std.proofs.Common.{◌≡◌, cond, is_some, rules}
use Rattle.tlb_compare.specs.Agreement.Agreed.{none, next}
use Rattle.tlb_compare.proofs.compare.compare.Goals as goal

pub loop-call-preserved : goal.loop-call-preserved
loop-call-preserved g c =
    let same : c.in-Ok.answers.tlb ≡ c.in-Ok.answers.model = search rules in
    let hit : c.from-hits.result ≡ cond (is_some c.in-Ok.answers.tlb) 1 0 = search rules in
    (search rules, rw hit (next c.draw.result c.in-Ok.answers c.loop-call.invariant.1 c.in-Ok.ensures same))

pub returns : goal.returns
returns g c = (c.loop-call.tlb, c.loop-call.model, search rules)

pub loop-call-init : goal.loop-call-init
loop-call-init g c = (search rules, none)
