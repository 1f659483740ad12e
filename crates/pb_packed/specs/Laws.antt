-- The laws of this crate. Each is proved, as the contract of the public function that has its name.
use Rattle.std.specs.Prelude.{◌≡◌, ℕ, ◌+◌, ◌/◌, ◌%◌, ◌^◌, ◌<◌, IsTrue, length, All}
use Rattle.pb_packed.specs.Bits.{bits_of, with_bits_of}
use Rattle.pb_packed.specs.Digits.{hex_digits, is_hex_digit}

-- After a field of bits is replaced, it has the value. The bits above and below it are as before.
abbrev pub FieldsAreReplaced : Type 0
FieldsAreReplaced =
    (n at len value : ℕ) → value < 2 ^ len
    → (bits_of (with_bits_of n at len value) at len ≡ value)
    × (with_bits_of n at len value / 2 ^ (at + len) ≡ n / 2 ^ (at + len))
    × (with_bits_of n at len value % 2 ^ at ≡ n % 2 ^ at)

-- The digits of a number are hexadecimal digits, as many as are asked for.
abbrev pub DigitsAreHex : Type 0
DigitsAreHex =
    (count n : ℕ) → (length (hex_digits count n) ≡ count)
    × All (λ c. IsTrue (is_hex_digit c)) (hex_digits count n)

-- Two numbers that are small enough for this count of digits are equal if their digits are equal.
abbrev pub DigitsTellNumbers : Type 0
DigitsTellNumbers =
    (count n m : ℕ) → n < 16 ^ count → m < 16 ^ count → hex_digits count n ≡ hex_digits count m
    → n ≡ m
