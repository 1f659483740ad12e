use Rattle.std.proofs.Common.{◌<◌, ◌≤◌, length, ◌+◌, ◌*◌, ◌^◌, ◌-◌, take, get_or, arith, sym, ◌∙◌}
use Rattle.pb_lines.proofs.ShortNumbers.{short_number_is, value_next, digit_at, small_at, small_next, next_value}
use Rattle.pb_lines.specs.ShortNumbers.{value_behind}
use Rattle.pb_lines.proofs.short_numbers.value_of.Goals as goal

pub overflow_mul-value : goal.overflow_mul-value
overflow_mul-value c = let small : c.loop-digit.value * 10 + 9 < 2 ^ 32 = small_at c.loop-digit.digit-index c.loop-digit.value (let few : length c.args.digits.now ≤ 9 = (short_number_is c.args.digits.now c.requires).most in omega (arith, few)) c.loop-digit.invariant.small in omega (arith, small)

pub overflow_add-value : goal.overflow_add-value
overflow_add-value c =
    let small : c.loop-digit.value * 10 + 9 < 2 ^ 32 = small_at c.loop-digit.digit-index c.loop-digit.value (let few : length c.args.digits.now ≤ 9 = (short_number_is c.args.digits.now c.requires).most in omega (arith, few)) c.loop-digit.invariant.small in
    omega (arith, small, c.from.ensures, (digit_at c.args.digits.now c.loop-digit.digit-index (short_number_is c.args.digits.now c.requires).digits c.loop-digit-test.true).1)

pub loop-digit-preserved : goal.loop-digit-preserved
loop-digit-preserved c = record {
  value = sym (value_next c.args.digits.now c.loop-digit.digit-index c.loop-digit-test.true ∙ next_value c.loop-digit.value (get_or c.args.digits.now c.loop-digit.digit-index 0 - 48) c.from.result (value_behind 0 (take c.loop-digit.digit-index c.args.digits.now)) c.loop-digit.invariant.value c.from.ensures);
  small = small_next c.loop-digit.digit-index c.loop-digit.value c.from.result c.loop-digit.invariant.small (omega (arith, c.from.ensures, (digit_at c.args.digits.now c.loop-digit.digit-index (short_number_is c.args.digits.now c.requires).digits c.loop-digit-test.true).1));
}
