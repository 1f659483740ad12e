use Rattle.std.proofs.Common.{ap, sym, ◌+◌, ◌*◌, ◌≡◌, arith}
use Rattle.pb_packed.proofs.HexDigits.{no_digits, read, grows, has_room}
use Rattle.pb_packed.proofs.digits.word_spelled.Goals as goal

pub loop-i-init : goal.loop-i-init
loop-i-init c = record { digits_so_far = sym (no_digits 0); small = omega arith }

pub overflow_mul-word : goal.overflow_mul-word
overflow_mul-word c = omega (arith, has_room c.loop-i.i c.loop-i.word (omega arith) c.loop-i.invariant.small)

pub overflow_add-word : goal.overflow_add-word
overflow_add-word c = omega (arith, has_room c.loop-i.i c.loop-i.word (omega arith) c.loop-i.invariant.small, c.from.ensures, c.in-Some.ensures.digit)

pub loop-i-preserved : goal.loop-i-preserved
loop-i-preserved c =
    let same : c.loop-i.word * 16 + c.from.result ≡ c.loop-i.word * 16 + c.in-Some.digit = ap (λ d. c.loop-i.word * 16 + d) c.from.ensures in record {
      digits_so_far = read c.loop-i.i c.loop-i.word c.in-Some.digit (c.loop-i.word * 16 + c.from.result) c.args.digits.now (omega arith) c.loop-i.invariant.digits_so_far c.in-Some.ensures.digit c.in-Some.ensures.character same;
      small = omega (arith, grows c.loop-i.i c.loop-i.word c.in-Some.digit c.loop-i.invariant.small c.in-Some.ensures.digit, same);
    }
