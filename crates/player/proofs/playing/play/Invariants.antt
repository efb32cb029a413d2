use Rattle.std.proofs.Common.{◌-◌, length}
use Rattle.trace_format.specs.Records.{input_of, place_of}
use Rattle.player.proofs.Plays.{Sofar}
use Rattle.player.proofs.playing.play.Given as goal

abbrev pub invariant-loop-part : goal.invariant-loop-part
invariant-loop-part g l = Sofar l.initial.space (input_of l.initial.reader) (input_of l.reader) (place_of l.reader) l.space (g.W.Write.contents l.initial.out) (g.W.Write.contents l.out)

abbrev pub decreases-loop-part : goal.decreases-loop-part
decreases-loop-part g l = length (input_of l.reader) - place_of l.reader
