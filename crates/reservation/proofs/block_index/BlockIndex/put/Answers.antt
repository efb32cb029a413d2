use Rattle.std.proofs.Common.{eqb, sym, ap, ◌∙◌, arith}
use Rattle.reservation.specs.Groups.{bucket_use}
use Rattle.reservation.specs.Index.{nth_has, put_in}
use Rattle.reservation.proofs.Indexed.{put_nth}
use Rattle.reservation.proofs.block_index.BlockIndex.put.Goals as goal

pub returns-in-Reserved : goal.returns-in-Reserved
returns-in-Reserved c h k =
    let bs = c.args.self.now.buckets in
    put_nth bs c.bucket.result c.from.result c.args.on _ c.put.new.self (omega (arith, c.bucket.ensures)) c.put.ensures h k
    ∙ ap (λ g. put_in (eqb c.bucket.result h) (nth_has bs h) g c.args.on k) c.from.ensures
    ∙ ap (λ x. put_in (eqb x h) (nth_has bs h) c.args.group c.args.on k) c.bucket.ensures
    ∙ ap (λ u. put_in (bucket_use h u) (nth_has bs h) c.args.group c.args.on k) (sym c.in-Reserved.is)
