use Rattle.std.proofs.Common.{get_or, arith}
use Rattle.std.proofs.lemmas.Int.Digits.{digits_value_more}
use Rattle.mx_run.proofs.Digits.{digit_at, digit_range, digit_value_is, pow_next}
use Rattle.mx_run.proofs.options.number.Goals as goal

pub loop-digit-preserved : goal.loop-digit-preserved
loop-digit-preserved c =
    let i = c.loop-digit.digit-index in
    let digits = c.args.digits.now in
    let digit = digit_at digits i c.requires.digits c.loop-digit-test.true in
    let range = digit_range (get_or digits i 0) digit in
    let more = digits_value_more 10 digits i c.loop-digit-test.true in
    let is = digit_value_is (get_or digits i 0) digit in
    let next = pow_next i in
    record {
      value = grind (arith, more, is, c.from.ensures, c.loop-digit.invariant.value);
      bound =
          omega (arith, next, c.from.ensures, c.loop-digit.invariant.bound);
    }
