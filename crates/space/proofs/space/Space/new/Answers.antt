use Rattle.law.proofs.Steps.{empty_sound, empty_accounted}
use Rattle.space.proofs.space.Space.new.Goals as goal

pub invariant_of-result : goal.invariant_of-result
invariant_of-result g c = record {
  sound = empty_sound g.T.Tlb.meaning g.F.FrameAllocator.meaning _ _ c.new.ensures.held c.new-2.ensures (λ p x h. c.flush.ensures.gone p x h);
}

pub returns-clause-accounted : goal.returns-clause-accounted
returns-clause-accounted g c = empty_accounted g.T.Tlb.meaning g.F.FrameAllocator.meaning c.args.frames _ c.new.ensures.held c.new-2.ensures
