-- The three forms of a number: in one word, in 4 words or in 16. Contracts see the number alone.
use Rattle.std.specs.Prelude.{◌≡◌, ℕ, ◌<◌, ◌≤◌, ◌^◌, true, false, nat_lt, if◌then◌else◌}
use Rattle.std.specs.Hash as fed
use Rattle.std.specs.List.{flat_map}
use Rattle.std.proofs.Common.{ap, ◌∙◌, arith}
use Rattle.std.proofs.lemmas.Bool.Decides.{nat_tests}
use Rattle.pb_packed.specs.Words.{words_of}
use Rattle.pb_packed.specs.Sizes.{state_bits}
use Rattle.pb_packed.specs.declared.packed.Form.{Form}
use Rattle.pb_packed.specs.declared.packed.Form.TheVariants.{Word, Few, Many}

-- the number that a form holds
abbrev pub number_in : Form → ℕ
number_in (Word word) = word
number_in (Few words) = words
number_in (Many words) = words

-- each number has one form: the smallest that it fits
abbrev pub IsSmallest : Form → Type 0
IsSmallest (Word word) = word < 2 ^ 64
IsSmallest (Few words) = (2 ^ 64 ≤ words) × (words < 2 ^ 256)
IsSmallest (Many words) = (2 ^ 256 ≤ words) × (words < 2 ^ state_bits)

-- the smallest form that a number fits
abbrev pub form_of : ℕ → Form
form_of n = if nat_lt n (2 ^ 64) then Word n else (if nat_lt n (2 ^ 256) then Few n else Many n)

-- what a number feeds to a hasher: its words, as many as its form has
abbrev pub words_fed : ℕ → fed.HashWrites
words_fed n =
    if nat_lt n (2 ^ 64) then fed.u64 n
    else (if nat_lt n (2 ^ 256) then flat_map fed.u64 (words_of 4 n)
    else flat_map fed.u64 (words_of 16 n))

pub form_is_back : (form : Form) → IsSmallest form → form_of (number_in form) ≡ form
form_is_back (Word word) h = let e : nat_lt word (2 ^ 64) ≡ true = grind (arith, nat_tests) in ap (λ b. if b then Word word else (if nat_lt word (2 ^ 256) then Few word else Many word)) e
form_is_back (Few words) h =
    let e : nat_lt words (2 ^ 64) ≡ false = grind (arith, nat_tests, h.0) in
    let f : nat_lt words (2 ^ 256) ≡ true = grind (arith, nat_tests, h.1) in
    ap (λ b. if b then Word words else (if nat_lt words (2 ^ 256) then Few words else Many words)) e ∙ ap (λ b. if b then Few words else Many words) f
form_is_back (Many words) h =
    let below : 2 ^ 64 ≤ words = omega (arith, h.0) in
    let e : nat_lt words (2 ^ 64) ≡ false = grind (arith, nat_tests, below) in
    let f : nat_lt words (2 ^ 256) ≡ false = grind (arith, nat_tests, h.0) in
    ap (λ b. if b then Word words else (if nat_lt words (2 ^ 256) then Few words else Many words)) e ∙ ap (λ b. if b then Few words else Many words) f
