-- Numbers in words: a field of bits lies in one word or in two.
use Rattle.std.proofs.Common.{lit<, ◌≡◌, ℕ, zero, suc, ◌+◌, ◌*◌, ◌/◌, ◌%◌, ◌^◌, ◌<◌, ◌≤◌, ◌≢◌, List, [], ◌∷◌, length, drop, get_or, slice_set, refl, ap, sym, ◌∙◌, arith}
use Rattle.std.proofs.Math.ListN.{replicate}
use Rattle.std.proofs.Math.Seq.{drop-cons}
use Rattle.std.proofs.Math.Nat.{div-one, mul_assoc, mul_comm, add-mul}
use Rattle.std.proofs.lemmas.Nat.{pow-add, div-mul-add, shr-shr}
use Rattle.std.proofs.lemmas.List.{get_or-set_other, length-set}
use Rattle.pb_packed.specs.Words.{number_of, AreWords}
use Rattle.pb_packed.specs.Bits.{bits_of, with_bits_of}
use Rattle.pb_packed.proofs.Shifts.{field_of_low, field_within}

pub zeros_are_words : (count : ℕ) → AreWords count (replicate count 0)
zeros_are_words zero = tt
zeros_are_words (suc count) = (lit< tt, zeros_are_words count)

pub number_of_zeros : (count : ℕ) → number_of (replicate count 0) ≡ 0
number_of_zeros zero = refl
number_of_zeros (suc count) = ap (λ n. n * 2 ^ 64 + 0) (number_of_zeros count)

-- the number without its lowest words
pub number_of-drop : (count i : ℕ) (words : List ℕ) → AreWords count words → number_of words / 2 ^ (64 * i) ≡ number_of (drop i words)
number_of-drop count zero words h = div-one (number_of words)
number_of-drop zero (suc i) [] h = omega arith
number_of-drop zero (suc i) (w ∷ ws) h = absurd h
number_of-drop (suc count) (suc i) [] h = absurd h
number_of-drop (suc count) (suc i) (w ∷ ws) h =
    let sum : 64 + 64 * i ≡ 64 * suc i = omega arith in
    let high : (number_of ws * 2 ^ 64 + w) / 2 ^ 64 ≡ number_of ws = div-mul-add (number_of ws) (2 ^ 64) w h.0 in
    ap (λ k. (number_of ws * 2 ^ 64 + w) / 2 ^ k) (sym sum) ∙ sym (shr-shr (number_of ws * 2 ^ 64 + w) 64 (64 * i)) ∙ ap (λ n. n / 2 ^ (64 * i)) high
    ∙ number_of-drop count i ws h.1

-- the number from a word on, as that word and what is above it
pub number_from : (words : List ℕ) (i : ℕ) → i < length words → number_of (drop i words) ≡ number_of (drop (suc i) words) * 2 ^ 64 + get_or words i 0
number_from words i within = ap number_of (drop-cons words i 0 within)

pub quotient_at : (count : ℕ) (words : List ℕ) (i shift at : ℕ) → AreWords count words → at ≡ 64 * i + shift → number_of words / 2 ^ at ≡ number_of (drop i words) / 2 ^ shift
quotient_at count words i shift at h is =
    ap (λ k. number_of words / 2 ^ k) is ∙ sym (shr-shr (number_of words) (64 * i) shift) ∙ ap (λ n. n / 2 ^ shift) (number_of-drop count i words h)

-- a field within one word
pub field_in_word : (count : ℕ) (words : List ℕ) (i shift len at : ℕ) → AreWords count words → i < length words → at ≡ 64 * i + shift → shift + len ≤ 64
    → get_or words i 0 / 2 ^ shift % 2 ^ len ≡ bits_of (number_of words) at len
field_in_word count words i shift len at h within is short =
    field_of_low (number_of (drop (suc i) words)) (get_or words i 0) 64 shift len short
    ∙ ap (λ n. n / 2 ^ shift % 2 ^ len) (sym (number_from words i within))
    ∙ ap (λ n. n % 2 ^ len) (sym (quotient_at count words i shift at h is))

-- a field in two words
pub field_in_pair : (count : ℕ) (words : List ℕ) (i next shift len at pair : ℕ) → AreWords count words → next < length words → next ≡ i + 1 → at ≡ 64 * i + shift → shift + len ≤ 128
    → pair ≡ get_or words next 0 * 2 ^ 64 + get_or words i 0
    → pair / 2 ^ shift % 2 ^ len ≡ bits_of (number_of words) at len
field_in_pair count words i next shift len at pair h within next_is is short pair_is =
    let above = number_of (drop (suc (suc i)) words) in
    let same : next ≡ suc i = omega arith in
    let within' : suc i < length words = omega arith in
    let upper : get_or words next 0 ≡ get_or words (suc i) 0 = ap (λ k. get_or words k 0) same in
    let number : number_of (drop i words) ≡ above * 2 ^ 128 + pair =
    number_from words i (omega arith) ∙ ap (λ n. n * 2 ^ 64 + get_or words i 0) (number_from words (suc i) within') ∙ omega (arith, pair_is, upper) in
    field_of_low above pair 128 shift len short
    ∙ ap (λ n. n / 2 ^ shift % 2 ^ len) (sym number)
    ∙ ap (λ n. n % 2 ^ len) (sym (quotient_at count words i shift at h is))

-- ---- words that are replaced

pub set_words : (count i w : ℕ) (words : List ℕ) → AreWords count words → w < 2 ^ 64 → AreWords count (slice_set words i w)
set_words zero i w [] h small = h
set_words zero i w (x ∷ xs) h small = absurd h
set_words (suc count) i w [] h small = absurd h
set_words (suc count) zero w (x ∷ xs) h small = (small, h.1)
set_words (suc count) (suc i) w (x ∷ xs) h small = (h.0, set_words count i w xs h.1 small)

pub number_of-set : (i w : ℕ) (words : List ℕ) → i < length words → number_of (slice_set words i w) + get_or words i 0 * 2 ^ (64 * i) ≡ number_of words + w * 2 ^ (64 * i)
number_of-set i w [] within = omega arith
number_of-set zero w (x ∷ xs) within = omega arith
number_of-set (suc i) w (x ∷ xs) within =
    let inside : i < length xs = omega arith in
    let before = number_of-set i w xs inside in
    let sum : 64 * i + 64 ≡ 64 * suc i = omega arith in
    let power : 2 ^ (64 * i) * 2 ^ 64 ≡ 2 ^ (64 * suc i) = sym (pow-add 2 (64 * i) 64) ∙ ap (λ k. 2 ^ k) sum in
    let placed : (n : ℕ) → n * 2 ^ (64 * i) * 2 ^ 64 ≡ n * 2 ^ (64 * suc i) = λ n. mul_assoc n (2 ^ (64 * i)) (2 ^ 64) ∙ ap (λ m. n * m) power in
    omega (arith, before, placed (get_or xs i 0), placed w)

-- a word in which a field is replaced, in its place in the number
pub replaced_in : (count : ℕ) (words : List ℕ) (i shift len at value new : ℕ) → AreWords count words → i < length words → at ≡ 64 * i + shift → shift + len ≤ 64
    → new ≡ with_bits_of (get_or words i 0) shift len value
    → number_of (slice_set words i new) ≡ with_bits_of (number_of words) at len value
replaced_in count words i shift len at value new h within is short new_is =
    let word = get_or words i 0 in
    let field = word / 2 ^ shift % 2 ^ len in
    let same : field ≡ bits_of (number_of words) at len = field_in_word count words i shift len at h within is short in
    let inside : field * 2 ^ shift ≤ word = field_within word shift len in
    let change : new + field * 2 ^ shift ≡ word + value * 2 ^ shift = omega (arith, new_is, inside) in
    let power : 2 ^ shift * 2 ^ (64 * i) ≡ 2 ^ at = mul_comm (2 ^ shift) (2 ^ (64 * i)) ∙ sym (pow-add 2 (64 * i) shift) ∙ ap (λ k. 2 ^ k) (sym is) in
    let placed : (n : ℕ) → n * 2 ^ shift * 2 ^ (64 * i) ≡ n * 2 ^ at = λ n. mul_assoc n (2 ^ shift) (2 ^ (64 * i)) ∙ ap (λ m. n * m) power in
    let whole : (new + field * 2 ^ shift) * 2 ^ (64 * i) ≡ (word + value * 2 ^ shift) * 2 ^ (64 * i) = ap (λ n. n * 2 ^ (64 * i)) change in
    let parts : new * 2 ^ (64 * i) + field * 2 ^ at ≡ word * 2 ^ (64 * i) + value * 2 ^ at =
    omega (arith, whole, add-mul new (field * 2 ^ shift) (2 ^ (64 * i)), add-mul word (value * 2 ^ shift) (2 ^ (64 * i)), placed field, placed value) in
    let sum : number_of (slice_set words i new) + field * 2 ^ at ≡ number_of words + value * 2 ^ at = omega (arith, parts, number_of-set i new words within) in
    let fits : bits_of (number_of words) at len * 2 ^ at ≤ number_of words = field_within (number_of words) at len in
    omega (arith, sum, fits, ap (λ n. n * 2 ^ at) same)

-- a pair of words in which a field is replaced, in its place in the number
pub replaced_in_pair : (count : ℕ) (words : List ℕ) (i next shift len at value pair new low high : ℕ) → AreWords count words → next < length words → next ≡ i + 1 → at ≡ 64 * i + shift → shift + len ≤ 128
    → pair ≡ get_or words next 0 * 2 ^ 64 + get_or words i 0 → new ≡ with_bits_of pair shift len value → high * 2 ^ 64 + low ≡ new
    → number_of (slice_set (slice_set words i low) next high) ≡ with_bits_of (number_of words) at len value
replaced_in_pair count words i next shift len at value pair new low high h within next_is is short pair_is new_is new_parts =
    let field = pair / 2 ^ shift % 2 ^ len in
    let same : field ≡ bits_of (number_of words) at len = field_in_pair count words i next shift len at pair h within next_is is short pair_is in
    let inside : field * 2 ^ shift ≤ pair = field_within pair shift len in
    let change : new + field * 2 ^ shift ≡ pair + value * 2 ^ shift = omega (arith, new_is, inside) in
    let power : 2 ^ shift * 2 ^ (64 * i) ≡ 2 ^ at = mul_comm (2 ^ shift) (2 ^ (64 * i)) ∙ sym (pow-add 2 (64 * i) shift) ∙ ap (λ k. 2 ^ k) (sym is) in
    let placed : (n : ℕ) → n * 2 ^ shift * 2 ^ (64 * i) ≡ n * 2 ^ at = λ n. mul_assoc n (2 ^ shift) (2 ^ (64 * i)) ∙ ap (λ m. n * m) power in
    let whole : (new + field * 2 ^ shift) * 2 ^ (64 * i) ≡ (pair + value * 2 ^ shift) * 2 ^ (64 * i) = ap (λ n. n * 2 ^ (64 * i)) change in
    let parts : new * 2 ^ (64 * i) + field * 2 ^ at ≡ pair * 2 ^ (64 * i) + value * 2 ^ at =
    omega (arith, whole, add-mul new (field * 2 ^ shift) (2 ^ (64 * i)), add-mul pair (value * 2 ^ shift) (2 ^ (64 * i)), placed field, placed value) in
    let next_sum : 64 + 64 * i ≡ 64 * next = omega arith in
    let next_power : 2 ^ 64 * 2 ^ (64 * i) ≡ 2 ^ (64 * next) = sym (pow-add 2 64 (64 * i)) ∙ ap (λ k. 2 ^ k) next_sum in
    let next_placed : (n : ℕ) → n * 2 ^ 64 * 2 ^ (64 * i) ≡ n * 2 ^ (64 * next) = λ n. mul_assoc n (2 ^ 64) (2 ^ (64 * i)) ∙ ap (λ m. n * m) next_power in
    let new_placed : high * 2 ^ (64 * next) + low * 2 ^ (64 * i) ≡ new * 2 ^ (64 * i) =
    omega (arith, ap (λ n. n * 2 ^ (64 * i)) new_parts, add-mul (high * 2 ^ 64) low (2 ^ (64 * i)), next_placed high) in
    let pair_placed : get_or words next 0 * 2 ^ (64 * next) + get_or words i 0 * 2 ^ (64 * i) ≡ pair * 2 ^ (64 * i) =
    omega (arith, ap (λ n. n * 2 ^ (64 * i)) pair_is, add-mul (get_or words next 0 * 2 ^ 64) (get_or words i 0) (2 ^ (64 * i)), next_placed (get_or words next 0)) in
    let apart : next ≢ i = omega arith in
    let kept : get_or (slice_set words i low) next 0 ≡ get_or words next 0 = get_or-set_other words i next low 0 apart in
    let size : next < length (slice_set words i low) = omega (arith, length-set words i low) in
    let inside_i : i < length words = omega arith in
    let first = number_of-set i low words inside_i in
    let second = number_of-set next high (slice_set words i low) size in
    let sum : number_of (slice_set (slice_set words i low) next high) + field * 2 ^ at ≡ number_of words + value * 2 ^ at =
    omega (arith, parts, first, second, new_placed, pair_placed, ap (λ n. n * 2 ^ (64 * next)) kept) in
    let fits : bits_of (number_of words) at len * 2 ^ at ≤ number_of words = field_within (number_of words) at len in
    omega (arith, sum, fits, ap (λ n. n * 2 ^ at) same)
