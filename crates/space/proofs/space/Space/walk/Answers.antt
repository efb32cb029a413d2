use Rattle.space.specs.Space.{seen, page_map}
use Rattle.space.proofs.Steps.{walked, lawful}
use Rattle.space.proofs.space.Space.walk.Goals as goal

pub returns : goal.returns
returns g c =
    let s = c.args.self.now in
    let f = g.met.F.FrameAllocator in
    lawful s s _ (λ b n o. f.small b n (f.within b n o))
    (walked g.T.Tlb.meaning g.F.FrameAllocator.meaning (page_map s) (seen s) c.args.address c.of_address.result.number c.walk.result c.of_address.ensures c.walk.ensures.word)
