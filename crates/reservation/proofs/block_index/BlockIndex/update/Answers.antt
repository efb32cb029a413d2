use Rattle.std.proofs.Common.{true, false, ◌∙◌}
use Rattle.reservation.specs.Groups.{bucket_use}
use Rattle.reservation.specs.Index.{in_bucket}
use Rattle.reservation.proofs.Indexed.{relisted, put_other}
use Rattle.reservation.proofs.block_index.BlockIndex.update.Goals as goal

pub returns : goal.returns
returns c =
    let x = in_bucket c.args.self.now in
    let y = in_bucket c.put.new.self in
    let g = c.args.group in
    let old = c.args.old in
    let new = c.args.new in
    record {
      own = relisted x y _ g old new c.requires c.put.ensures c.put-2.ensures;
      others = λ h k ne. c.put-2.ensures h k ∙ put_other (bucket_use h new) (y h) g k true ne ∙ c.put.ensures h k ∙ put_other (bucket_use h old) (x h) g k false ne;
    }
