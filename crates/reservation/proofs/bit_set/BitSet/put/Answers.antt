use Rattle.std.proofs.Common.{arith}
use Rattle.reservation.proofs.WordSets.{put_word}
use Rattle.reservation.proofs.bit_set.BitSet.put.Goals as goal

pub returns : goal.returns
returns g c = put_word c.args.self.now.words c.args.number c.with_bit.result c.args.on (omega arith) c.with_bit.ensures
