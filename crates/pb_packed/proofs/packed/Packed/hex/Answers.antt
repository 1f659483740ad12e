use Rattle.std.proofs.Common.{◌≡◌, ◌∙◌, ◌-◌, ◌*◌, ◌/◌, ◌^◌, ap, sym, refl, arith, take}
use Rattle.std.proofs.Math.Nat.{div-one}
use Rattle.std.proofs.lemmas.List.{length-set, drop-set-lt}
use Rattle.pb_packed.specs.Digits.{hex_digit, hex_digits}
use Rattle.pb_packed.proofs.HexDigits.{no_digits, written}
use Rattle.pb_packed.proofs.packed.Packed.hex.Goals as goal

pub loop-i-init : goal.loop-i-init
loop-i-init c = record { size = c.told-out; digits_so_far = sym (no_digits (c.args.self.now / 2 ^ (4 * (c.args.digits - 0)))); rest = refl }

pub loop-i-preserved : goal.loop-i-preserved
loop-i-preserved c = record {
  size = length-set c.loop-i.out c.loop-i.i c.character.result ∙ c.loop-i.invariant.size;
  digits_so_far = written c.args.digits c.args.self.now c.loop-i.i (4 * (c.args.digits - 1 - c.loop-i.i)) c.character.result c.loop-i.out c.loop-i-test.true
      (omega arith) refl c.loop-i.invariant.digits_so_far (c.character.ensures ∙ ap hex_digit c.bits.ensures);
  rest = drop-set-lt c.args.digits c.loop-i.out c.loop-i.i c.character.result c.loop-i-test.true ∙ c.loop-i.invariant.rest;
}

pub returns-clause-written : goal.returns-clause-written
returns-clause-written c =
    let last : c.loop-i.i ≡ c.args.digits = omega arith in
    let none : c.args.digits - c.loop-i.i ≡ 0 = omega arith in
    ap (λ k. take k c.loop-i.out) (sym last) ∙ c.loop-i.invariant.digits_so_far
    ∙ ap (λ k. hex_digits c.loop-i.i (c.args.self.now / 2 ^ (4 * k))) none ∙ ap (hex_digits c.loop-i.i) (div-one c.args.self.now)
    ∙ ap (λ k. hex_digits k c.args.self.now) last
