use Rattle.std.proofs.Common.{subst}
use Rattle.std.proofs.lemmas.Result.{on_ok_weaker, on_err_weaker, err_from_is_err_and}
use Rattle.trace_format.specs.Records.{input_of}
use Rattle.player.specs.Play.{WritesPlay, WritesFront}
use Rattle.player.proofs.Plays.{sofar_none, sofar_more, sofar_over, sofar_fault, sofar_fault_cut, sofar_cut, first, of_new}
use Rattle.player.proofs.playing.play.Goals as goal

pub loop-part-init : goal.loop-part-init
loop-part-init g c = rw c.new-reader.ensures.start (sofar_none c.new-space.result (input_of c.new-reader.result) (g.W.Write.contents c.args.out.now))

pub loop-part-preserved : goal.loop-part-preserved
loop-part-preserved g c =
    sofar_more c.new-space.result _ _ _ _ _ _ _ c.in-Ok-Some.part c.record.result _ _ _ _ c.loop-part.invariant (rw c.in-Ok-Some.field-0-is at c.in-Ok-Some.ensures.reads) c.next.ensures.input c.record.ensures c.step-line.ensures c.in_ok-send_line-in-Ok-Some.ensures.ok

pub returns-in_err-send_line-in-Ok-Some-clause-err : goal.returns-in_err-send_line-in-Ok-Some-clause-err
returns-in_err-send_line-in-Ok-Some-clause-err g c =
    let p = err_from_is_err_and c.from_residual.result c.from_residual.ensures.1 in
    rw p.1 (subst (λ x. WritesFront g.T.Tlb.meaning g.F.FrameAllocator.meaning c.args.tlb c.args.frames x (g.W.Write.contents c.args.out.now) (g.W.Write.contents c.send_line.new.out)) (first c.args.input.now _ _ c.new-reader.ensures.input c.min.ensures)
    (sofar_cut c.args.tlb c.args.frames c.new-space.result (of_new c.args.tlb c.args.frames c.new-space.result c.new-space.ensures.map c.new-space.ensures.flushed c.new-space.ensures.frames c.new-space.ensures.accounted) _ _ _ _ _ _ c.in-Ok-Some.part c.record.result _ _ _ _ c.loop-part.invariant (rw c.in-Ok-Some.field-0-is at c.in-Ok-Some.ensures.reads) c.record.ensures c.step-line.ensures c.in_err-send_line-in-Ok-Some.ensures.err))

pub returns-in-Ok-None-clause-ok : goal.returns-in-Ok-None-clause-ok
returns-in-Ok-None-clause-ok g c =
    subst (λ x. WritesPlay g.T.Tlb.meaning g.F.FrameAllocator.meaning c.args.tlb c.args.frames x (g.W.Write.contents c.args.out.now) (g.W.Write.contents c.loop-part.out)) (first c.args.input.now _ _ c.new-reader.ensures.input c.min.ensures)
    (sofar_over c.args.tlb c.args.frames c.new-space.result (of_new c.args.tlb c.args.frames c.new-space.result c.new-space.ensures.map c.new-space.ensures.flushed c.new-space.ensures.frames c.new-space.ensures.accounted) _ _ _ _ _ _ _ c.loop-part.invariant c.loop-part.reader.within (rw c.in-Ok-None.field-0-is at c.in-Ok-None.ensures.reads))

pub returns-in-Err-clause-ok : goal.returns-in-Err-clause-ok
returns-in-Err-clause-ok g c =
    on_ok_weaker c.send_line-in-Err.result
    (λ sent. subst (λ x. WritesPlay g.T.Tlb.meaning g.F.FrameAllocator.meaning c.args.tlb c.args.frames x (g.W.Write.contents c.args.out.now) (g.W.Write.contents c.send_line-in-Err.new.out)) (first c.args.input.now _ _ c.new-reader.ensures.input c.min.ensures)
    (sofar_fault c.args.tlb c.args.frames c.new-space.result (of_new c.args.tlb c.args.frames c.new-space.result c.new-space.ensures.map c.new-space.ensures.flushed c.new-space.ensures.frames c.new-space.ensures.accounted) _ _ _ _ _ c.in-Err.fault _ (g.W.Write.contents c.loop-part.out) _ c.loop-part.invariant c.loop-part.reader.within c.in-Err.ensures.reads sent))
    c.send_line-in-Err.ensures.ok

pub returns-in-Err-clause-err : goal.returns-in-Err-clause-err
returns-in-Err-clause-err g c =
    on_err_weaker c.send_line-in-Err.result
    (λ sent. subst (λ x. WritesFront g.T.Tlb.meaning g.F.FrameAllocator.meaning c.args.tlb c.args.frames x (g.W.Write.contents c.args.out.now) (g.W.Write.contents c.send_line-in-Err.new.out)) (first c.args.input.now _ _ c.new-reader.ensures.input c.min.ensures)
    (sofar_fault_cut c.args.tlb c.args.frames c.new-space.result (of_new c.args.tlb c.args.frames c.new-space.result c.new-space.ensures.map c.new-space.ensures.flushed c.new-space.ensures.frames c.new-space.ensures.accounted) _ _ _ _ _ c.in-Err.fault _ (g.W.Write.contents c.loop-part.out) _ c.loop-part.invariant c.loop-part.reader.within c.in-Err.ensures.reads sent))
    c.send_line-in-Err.ensures.err
