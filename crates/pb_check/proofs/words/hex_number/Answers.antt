use Rattle.std.proofs.Common.{get_or, arith, refl}
use Rattle.pb_check.specs.Words.{hex_after}
use Rattle.pb_table_lines.proofs.Callers.{grows, room}
use Rattle.pb_check.proofs.Sixteens.{digit_read, digit_fails, digits_end, value_small}
use Rattle.pb_check.proofs.words.hex_number.Goals as goal

pub returns-then-value-eq16-clause-number : goal.returns-then-value-eq16-clause-number
returns-then-value-eq16-clause-number c =
    digit_fails (hex_after 0 c.args.digits.now) c.loop-byte.number c.loop-byte.byte-index (get_or c.args.digits.now c.loop-byte.byte-index 0) c.hex_value-value.result c.args.digits.now (omega (arith, c.loop-byte-test.true)) refl c.hex_value-value.ensures c.if-value-eq16.true
    c.loop-byte.invariant.so_far

pub overflow_mul-number : goal.overflow_mul-number
overflow_mul-number c =
    let value = value_small c.hex_value-value.result (get_or c.args.digits.now c.loop-byte.byte-index 0) c.hex_value-value.ensures c.if-value-eq16.false in
    let h = room c.loop-byte.number c.hex_value-value.result c.loop-byte.byte-index c.loop-byte.invariant.small value (omega (arith, c.loop-byte-test.true, c.requires)) in omega (arith, h)

pub overflow_add-number : goal.overflow_add-number
overflow_add-number c =
    let value = value_small c.hex_value-value.result (get_or c.args.digits.now c.loop-byte.byte-index 0) c.hex_value-value.ensures c.if-value-eq16.false in
    let h = room c.loop-byte.number c.hex_value-value.result c.loop-byte.byte-index c.loop-byte.invariant.small value (omega (arith, c.loop-byte-test.true, c.requires)) in omega (arith, h)

pub loop-byte-preserved : goal.loop-byte-preserved
loop-byte-preserved c =
    let value = value_small c.hex_value-value.result (get_or c.args.digits.now c.loop-byte.byte-index 0) c.hex_value-value.ensures c.if-value-eq16.false in
    record {
      small = grows c.loop-byte.number c.hex_value-value.result c.loop-byte.byte-index c.loop-byte.invariant.small value;
      so_far = digit_read (hex_after 0 c.args.digits.now) c.loop-byte.number c.loop-byte.byte-index (get_or c.args.digits.now c.loop-byte.byte-index 0) c.hex_value-value.result c.args.digits.now (omega (arith, c.loop-byte-test.true)) refl c.hex_value-value.ensures c.if-value-eq16.false
          c.loop-byte.invariant.so_far;
    }

pub returns-clause-number : goal.returns-clause-number
returns-clause-number c = digits_end (hex_after 0 c.args.digits.now) c.loop-byte.number c.loop-byte.byte-index c.args.digits.now (omega (arith, c.loop-byte-test.false)) c.loop-byte.invariant.so_far
