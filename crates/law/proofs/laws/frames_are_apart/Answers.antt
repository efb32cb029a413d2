use Rattle.law.proofs.Apart.{frames_apart}
use Rattle.law.proofs.laws.frames_are_apart.Goals as goal

pub returns : goal.returns
returns g c = frames_apart g.T.Tlb.meaning g.F.FrameAllocator.meaning
