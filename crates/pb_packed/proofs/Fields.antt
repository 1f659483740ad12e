-- A field of bits that is replaced.
use Rattle.std.proofs.Common.{◌≡◌, ℕ, ◌+◌, ◌*◌, ◌/◌, ◌%◌, ◌^◌, ◌<◌, sym, ap, ◌∙◌, arith}
use Rattle.std.proofs.lemmas.Nat.{pow-add, pow_pos, mod_below, mod-mul-add, div-mul-add, shr_split, shr-shr, mod-pow-add}
use Rattle.std.proofs.Math.Nat.{mul_assoc, add-mul}
use Rattle.pb_packed.specs.Bits.{with_bits_of}
use Rattle.pb_packed.specs.Laws.{FieldsAreReplaced}

-- the bits above the field, the value, and the bits below it
parts : (n at len value : ℕ) → with_bits_of n at len value ≡ (n / 2 ^ (len + at) * 2 ^ len + value) * 2 ^ at + n % 2 ^ at
parts n at len value =
    let power : n / 2 ^ (len + at) * 2 ^ len * 2 ^ at ≡ n / 2 ^ (len + at) * 2 ^ (len + at) =
    mul_assoc (n / 2 ^ (len + at)) (2 ^ len) (2 ^ at) ∙ ap (λ k. n / 2 ^ (len + at) * k) (sym (pow-add 2 len at)) in
    omega (arith, power, add-mul (n / 2 ^ (len + at) * 2 ^ len) value (2 ^ at), shr_split n (len + at), mod-pow-add n len at)

pub fields_are_replaced : FieldsAreReplaced
fields_are_replaced n at len value fits =
    let low : n % 2 ^ at < 2 ^ at = mod_below n (2 ^ at) (pow_pos at) in
    let split = parts n at len value in
    let above : with_bits_of n at len value / 2 ^ at ≡ n / 2 ^ (len + at) * 2 ^ len + value =
    ap (λ m. m / 2 ^ at) split ∙ div-mul-add (n / 2 ^ (len + at) * 2 ^ len + value) (2 ^ at) (n % 2 ^ at) low in
    let turned : len + at ≡ at + len = omega arith in (
      ap (λ m. m % 2 ^ len) above ∙ mod-mul-add (n / 2 ^ (len + at)) (2 ^ len) value fits,
      sym (shr-shr (with_bits_of n at len value) at len) ∙ ap (λ m. m / 2 ^ len) above ∙ div-mul-add (n / 2 ^ (len + at)) (2 ^ len) value fits
          ∙ ap (λ k. n / 2 ^ k) turned,
      ap (λ m. m % 2 ^ at) split ∙ mod-mul-add (n / 2 ^ (len + at) * 2 ^ len + value) (2 ^ at) (n % 2 ^ at) low,
    )
