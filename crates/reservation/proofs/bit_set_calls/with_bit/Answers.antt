use Rattle.std.proofs.Common.{ℕ, ◌-◌, sym, ap, ◌∙◌, arith}
use lib.Bits.{bit_and, bit_or}
use Rattle.std.proofs.lemmas.Nat.{one_shl, pow_below}
use Rattle.words.specs.Layout.{bit}
use Rattle.words.specs.Points.{at}
use Rattle.reservation.proofs.WordSets.{bit_on, bit_off}
use Rattle.reservation.proofs.bit_set_calls.with_bit.Goals as goal

pub returns-then-on : goal.returns-then-on
returns-then-on c =
    let w = c.args.word in
    let k = c.args.index in
    ap (λ (m : ℕ). bit (bit_or w m)) (one_shl k 64 c.requires) ∙ bit_on w k ∙ ap (at (bit w) k) (sym c.if-on.true)

pub returns-else-on : goal.returns-else-on
returns-else-on c =
    let w = c.args.word in
    let k = c.args.index in
    let p = pow_below k 64 c.requires in
    ap (λ (m : ℕ). bit (bit_and w (18446744073709551615 - m))) (one_shl k 64 c.requires) ∙ bit_off 64 w k (omega arith) p ∙ ap (at (bit w) k) (sym c.if-on.false)
