use Rattle.std.proofs.Common.{◌-◌, ◌++◌, length, take, drop, length-drop, sym, ap, subst, ◌∙◌, arith}
use Rattle.std.proofs.KnownBytes.{Appends-trans}
use Rattle.std.proofs.Math.Seq.{take-add, take-take}
use Rattle.std.specs.Io.KnownBytes.{Appends}
use Rattle.player.proofs.sending.send.Goals as goal

pub loop-preserved : goal.loop-preserved
loop-preserved g c =
    let done = c.loop.sent in
    let n = c.in_ok-sent.field-0 in
    let xs = c.args.bytes.now in
    let before = c.loop.invariant in
    let fits = c.in_ok-sent.ensures.bound in
    let most = length-drop done xs in
    let joined = ap (λ l. take done xs ++ l) (take-take n (length xs - done) (drop done xs) (omega arith)) ∙ sym (take-add done n xs) in
    (omega arith, subst (Appends _ _) joined (Appends-trans _ _ _ _ _ before.1 c.in_ok-sent.ensures.ok))
