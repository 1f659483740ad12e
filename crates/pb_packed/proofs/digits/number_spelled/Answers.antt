use Rattle.std.proofs.Common.{◌≡◌, ◌+◌, ◌-◌, ◌*◌, ◌/◌, ◌^◌, length, ap, sym, ◌∙◌, arith}
use Rattle.std.proofs.lemmas.Nat.{pow_pos}
use Rattle.std.proofs.Math.Nat.{mul-div_cancel, zero-div, zero-mul}
use Rattle.pb_packed.specs.Bits.{with_bits_of}
use Rattle.pb_packed.proofs.HexDigits.{no_digits, read, grows, placed}
use Rattle.pb_packed.proofs.digits.number_spelled.Goals as goal

pub loop-i-init : goal.loop-i-init
loop-i-init c =
    let none : c.zero-number.result / 2 ^ (4 * (length c.args.digits.now - 0)) ≡ 0 =
    ap (λ n. n / 2 ^ (4 * (length c.args.digits.now - 0))) c.zero-number.ensures ∙ zero-div (2 ^ (4 * (length c.args.digits.now - 0))) in record {
      digits_so_far = sym (no_digits (c.zero-number.result / 2 ^ (4 * (length c.args.digits.now - 0))));
      small = omega (arith, none);
      placed = c.zero-number.ensures ∙ sym (ap (λ v. v * 2 ^ (4 * (length c.args.digits.now - 0))) none ∙ zero-mul (2 ^ (4 * (length c.args.digits.now - 0))));
    }

pub loop-i-preserved : goal.loop-i-preserved
loop-i-preserved c =
    let count = length c.args.digits.now in
    let v = c.loop-i.number / 2 ^ (4 * (count - c.loop-i.i)) in
    let at = 4 * (count - (c.loop-i.i + 1)) in
    let here : 4 * (count - 1 - c.loop-i.i) ≡ at = omega arith in
    let above : 4 * (count - c.loop-i.i) ≡ at + 4 = omega arith in
    let next : c.with_bits-number.result ≡ (v * 16 + c.in-Some.digit) * 2 ^ at =
    c.with_bits-number.ensures ∙ ap (λ k. with_bits_of c.loop-i.number k 4 c.from.result) here
    ∙ ap (λ d. with_bits_of c.loop-i.number at 4 d) c.from.ensures
    ∙ ap (λ n. with_bits_of n at 4 c.in-Some.digit) (c.loop-i.invariant.placed ∙ ap (λ k. v * 2 ^ k) above)
    ∙ placed v at c.in-Some.digit in
    let value : c.with_bits-number.result / 2 ^ at ≡ v * 16 + c.in-Some.digit = ap (λ n. n / 2 ^ at) next ∙ mul-div_cancel (v * 16 + c.in-Some.digit) (pow_pos at) in record {
      digits_so_far = read c.loop-i.i v c.in-Some.digit (c.with_bits-number.result / 2 ^ at) c.args.digits.now (omega arith) c.loop-i.invariant.digits_so_far c.in-Some.ensures.digit c.in-Some.ensures.character value;
      small = omega (arith, grows c.loop-i.i v c.in-Some.digit c.loop-i.invariant.small c.in-Some.ensures.digit, value);
      placed = next ∙ sym (ap (λ k. k * 2 ^ at) value);
    }
