use Rattle.std.proofs.Common.{arith}
use Rattle.words.proofs.Flip.{meeting}
use Rattle.words.proofs.offset_set.OffsetSet.meets.Goals as goal

pub returns : goal.returns
returns c = meeting 16 _ _ (omega arith)
