use Rattle.std.proofs.Common.{◌≡◌, ◌+◌, ◌*◌, ◌^◌, ◌≤◌, get_or, sym, ap, ◌∙◌, arith}
use Rattle.std.specs.Char.{digit_value}
use Rattle.word_lines.proofs.Reading.{none_after}
use Rattle.word_lines.proofs.numeral.numeral.Goals as goal

pub returns-in_err-shifted : goal.returns-in_err-shifted
returns-in_err-shifted c =
    let large : 2 ^ 64 ≤ c.loop-byte.value * c.args.base + digit_value (get_or c.args.digits.now c.loop-byte.byte-index 0)
    = omega (arith, c.in_err-shifted.ensures, ap (λ k. c.loop-byte.value * k) c.from-in-loop-byte.ensures) in
    c.from_residual-in_err-shifted.ensures ∙ sym (none_after c.args.base c.loop-byte.value c.loop-byte.byte-index c.args.digits.now c.loop-byte-test.true (omega arith) large) ∙ c.loop-byte.invariant.0

pub returns-in_err-value : goal.returns-in_err-value
returns-in_err-value c =
    let sum : c.in_ok-shifted.shifted + c.from-in-loop-byte-2.result ≡ c.loop-byte.value * c.args.base + digit_value (get_or c.args.digits.now c.loop-byte.byte-index 0)
    = cc (c.in_ok-shifted.ensures.1, c.in_ok-digit.ensures.value.1) in
    let large : 2 ^ 64 ≤ c.loop-byte.value * c.args.base + digit_value (get_or c.args.digits.now c.loop-byte.byte-index 0)
    = omega (arith, c.in_err-value.ensures) in
    c.from_residual-in_err-value.ensures ∙ sym (none_after c.args.base c.loop-byte.value c.loop-byte.byte-index c.args.digits.now c.loop-byte-test.true (omega arith) large) ∙ c.loop-byte.invariant.0
