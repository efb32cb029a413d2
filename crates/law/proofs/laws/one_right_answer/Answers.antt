use Rattle.law.proofs.Determined.{one_right_answer}
use Rattle.law.proofs.laws.one_right_answer.Goals as goal

pub returns : goal.returns
returns g c = one_right_answer g.T.Tlb.meaning g.F.FrameAllocator.meaning
