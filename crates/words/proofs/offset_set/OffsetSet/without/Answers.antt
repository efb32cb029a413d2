use Rattle.std.proofs.Common.{◌≡◌, ℕ, ◌-◌, ◌^◌, ◌<◌, not, ◌&&◌, sym, ap, ◌∙◌, arith}
use lib.Bits.{bit_and}
use Rattle.words.specs.Layout.{bit}
use Rattle.words.proofs.Flip.{cleared_bit, no_bit}
use Rattle.words.proofs.offset_set.OffsetSet.without.Goals as goal

pub returns : goal.returns
returns c =
    let n = c.args.self.bits in
    let m = c.args.gone.bits in
    let f : n < 2 ^ 16 = omega arith in
    let g : m < 2 ^ 16 = omega arith in
    let e : (k : ℕ) → bit (bit_and n (65535 - m)) k ≡ (bit n k && not (bit m k)) = λ k. cleared_bit 16 n m k f g in
    record { each = e; none = λ z k. sym (e k) ∙ ap (λ x. bit x k) z ∙ no_bit k }
