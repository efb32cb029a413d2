use Rattle.std.proofs.Common.{sym, ap, ◌∙◌, arith}
use Rattle.reservation.specs.Index.{nth_has}
use Rattle.reservation.proofs.Indexed.{nth_get}
use Rattle.reservation.proofs.block_index.BlockIndex.groups.Goals as goal

pub returns-clause-bucket : goal.returns-clause-bucket
returns-clause-bucket c =
    let bs = c.args.self.now.buckets in
    sym (nth_get bs c.bucket.result _ (omega (arith, c.bucket.ensures))) ∙ ap (nth_has bs) c.bucket.ensures
