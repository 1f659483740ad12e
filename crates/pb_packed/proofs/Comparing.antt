-- The comparison of two numbers in words.
use Rattle.std.proofs.Common.{◌≡◌, ◌≢◌, ℕ, suc, ◌+◌, ◌*◌, ◌/◌, ◌^◌, ◌<◌, List, length, drop, get_or, nat_eq, true, false, sym, ap, ◌∙◌, ◌⊎◌, inl, inr, arith}
use Rattle.std.proofs.lemmas.Bool.Decides.{eqb_tells}
use Rattle.std.proofs.Math.Nat.{div-lt_iff_lt-mul, div-mul-le_self}
use Rattle.std.proofs.lemmas.Nat.{pow_pos}
use Rattle.std.specs.Ordering.{nat_cmp}
use Rattle.std.specs.Cmp.{nat_cmp_is}
use Rattle.std.specs.declared.cmp.Ordering.TheVariants.{Less, Equal, Greater}
use Rattle.pb_packed.specs.Words.{number_of, words_of, AreWords, words_are_back}
use Rattle.pb_packed.proofs.WordLists.{number_of-drop, number_from}

pub same_number : (count : ℕ) (words other : List ℕ) → AreWords count words → AreWords count other → number_of words ≡ number_of other → words ≡ other
same_number count words other a b e = sym (words_are_back count words a) ∙ ap (words_of count) e ∙ words_are_back count other b

pub differ : (count i : ℕ) (words other : List ℕ) → AreWords count words → AreWords count other → get_or words i 0 ≢ get_or other i 0 → nat_eq (number_of words) (number_of other) ≡ false
differ count i words other a b apart = which (eqb_tells (number_of words) (number_of other))
  where
    which : ((nat_eq (number_of words) (number_of other) ≡ true) × (number_of words ≡ number_of other)) ⊎ ((nat_eq (number_of words) (number_of other) ≡ false) × (number_of words ≢ number_of other))
        → nat_eq (number_of words) (number_of other) ≡ false
    which (inl same) = absurd (apart (ap (λ ws. get_or ws i 0) (same_number count words other a b same.1)))
    which (inr other_one) = other_one.0

pub equal_numbers : (words other : List ℕ) → words ≡ other → nat_eq (number_of words) (number_of other) ≡ true
equal_numbers words other e = ap (λ ws. nat_eq (number_of words) (number_of ws)) (sym e) ∙ itself (number_of words)
  where
    itself : (n : ℕ) → nat_eq n n ≡ true
    itself n = grind arith

-- where the higher words are the same, the word decides
pub below : (count i next : ℕ) (words other : List ℕ) → AreWords count words → AreWords count other → i < length words → i < length other → next ≡ i + 1
    → drop next words ≡ drop next other → get_or words i 0 < get_or other i 0 → number_of words < number_of other
below count i next words other a b within within' next_is same less =
    let e : next ≡ suc i = omega arith in
    let above : number_of (drop (suc i) words) ≡ number_of (drop (suc i) other) = ap (λ k. number_of (drop k words)) (sym e) ∙ ap number_of same ∙ ap (λ k. number_of (drop k other)) e in
    let parts : number_of words / 2 ^ (64 * i) < number_of other / 2 ^ (64 * i) =
    omega (arith, number_of-drop count i words a, number_of-drop count i other b, number_from words i within, number_from other i within', above, less) in
    let room : number_of words < number_of other / 2 ^ (64 * i) * 2 ^ (64 * i) = (div-lt_iff_lt-mul (pow_pos (64 * i))).0 parts in
    omega (arith, room, div-mul-le_self (number_of other) (2 ^ (64 * i)))

pub is_less : (n m : ℕ) → n < m → Less ≡ nat_cmp n m
is_less n m l = nat_cmp_is n m Less l

pub is_greater : (n m : ℕ) → m < n → Greater ≡ nat_cmp n m
is_greater n m l = nat_cmp_is n m Greater l

pub is_equal : (n m : ℕ) → n ≡ m → Equal ≡ nat_cmp n m
is_equal n m e = nat_cmp_is n m Equal e
