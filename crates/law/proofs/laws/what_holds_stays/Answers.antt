use Rattle.law.proofs.Steps.{stays}
use Rattle.law.proofs.laws.what_holds_stays.Goals as goal

pub returns : goal.returns
returns g c = let f = g.met.F.FrameAllocator in stays g.T.Tlb.meaning g.F.FrameAllocator.meaning (λ b n out. f.small b n (f.within b n out))
