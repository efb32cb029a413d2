use Rattle.player.proofs.Plays.{first_of}
use Rattle.player.proofs.playing.first_bytes.Goals as goal

pub returns : goal.returns
returns g c =
    first_of (g.R.Read.remaining c.args.input.now) c.read_to_end.new.buf.items c.new-bytes.result.items (rw (c.take.ensures.limit, c.take.ensures.inner) at c.in_ok-read_to_end.ensures.bytes) c.new-bytes.ensures.items
