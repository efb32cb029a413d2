use Rattle.std.proofs.Common.{◌⊎◌, inl, inr}
use Rattle.std.proofs.KnownBytes.{Keeps-refl}
use Rattle.std.proofs.lemmas.Result.{on_ok_weaker, on_err_weaker, err_from_is_err_and}
use Rattle.std.specs.Io.KnownBytes.{Keeps}
use Rattle.player.specs.Play.{WritesPlay, WritesFront}
use Rattle.player.proofs.Plays.{read_whole, some_any}
use Rattle.player.proofs.playing.run.Goals as goal

pub returns-in_err-bytes-clause-err : goal.returns-in_err-bytes-clause-err
returns-in_err-bytes-clause-err g c =
    let p = err_from_is_err_and c.from_residual.result c.from_residual.ensures.1 in
    rw p.1 (some_any (g.R.Read.remaining c.args.input.now) _ (λ xs. inl (Keeps-refl (g.W.Write.contents c.args.out.now))))

pub returns-clause-ok : goal.returns-clause-ok
returns-clause-ok g c =
    on_ok_weaker c.play.result
    (read_whole (g.R.Read.remaining c.args.input.now) c.in_ok-bytes.bytes.items c.as_slice.result.now (λ bytes. WritesPlay g.T.Tlb.meaning g.F.FrameAllocator.meaning c.args.tlb c.args.frames bytes (g.W.Write.contents c.args.out.now) (g.W.Write.contents c.play.new.out)) c.in_ok-bytes.ensures c.as_slice.ensures.value)
    c.play.ensures.ok

pub returns-clause-err : goal.returns-clause-err
returns-clause-err g c =
    on_err_weaker c.play.result
    (λ front. read_whole (g.R.Read.remaining c.args.input.now) c.in_ok-bytes.bytes.items c.as_slice.result.now
    (λ bytes. Keeps (g.W.Write.contents c.args.out.now) (g.W.Write.contents c.play.new.out) ⊎ WritesFront g.T.Tlb.meaning g.F.FrameAllocator.meaning c.args.tlb c.args.frames bytes (g.W.Write.contents c.args.out.now) (g.W.Write.contents c.play.new.out)) c.in_ok-bytes.ensures c.as_slice.ensures.value (inr front))
    c.play.ensures.err
