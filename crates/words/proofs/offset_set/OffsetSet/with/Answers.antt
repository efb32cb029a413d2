use Rattle.std.proofs.Common.{arith}
use lib.Bits.{or_add_and}
use Rattle.std.proofs.lemmas.Nat.{and_le_l}
use Rattle.words.proofs.Flip.{joined_bit}
use Rattle.words.proofs.offset_set.OffsetSet.with.Goals as goal

pub returns : goal.returns
returns c = record {
  each = joined_bit c.args.self.bits c.args.more.bits;
  some = omega (arith, or_add_and c.args.self.bits c.args.more.bits, and_le_l c.args.self.bits c.args.more.bits);
}
