-- Words that are 0, above a number and beside one.
use Rattle.std.proofs.Common.{◌≡◌, ◌≢◌, ℕ, zero, suc, ◌+◌, ◌-◌, ◌*◌, ◌/◌, ◌^◌, ◌<◌, ◌≤◌, List, [], ◌∷◌, length, drop, get_or, slice_set, refl, sym, ap, ◌∙◌, ◌⊎◌, inl, inr, arith}
use Rattle.std.proofs.Math.ListN.{replicate}
use Rattle.std.proofs.Math.Nat.{div-lt_iff_lt-mul, div-eq_of_lt}
use Rattle.std.proofs.lemmas.Nat.{pow_pos}
use Rattle.std.proofs.lemmas.Bool.{cases_lt}
use Rattle.std.proofs.Math.ListN.{get_or-eq_default}
use Rattle.std.proofs.lemmas.List.{get_or-drop, get_or-set_other, get_or-set_same}
use Rattle.pb_packed.specs.Words.{number_of, AreWords}
use Rattle.pb_packed.proofs.WordLists.{number_of-drop}

pub all_zero : (words : List ℕ) → ((k : ℕ) → get_or words k 0 ≡ 0) → number_of words ≡ 0
all_zero [] h = refl
all_zero (w ∷ ws) h = let rest = all_zero ws (λ k. h (suc k)) in omega (arith, rest, h 0)

pub zero_words : (words : List ℕ) (k : ℕ) → number_of words ≡ 0 → get_or words k 0 ≡ 0
zero_words [] k e = refl
zero_words (w ∷ ws) zero e = omega (arith, e)
zero_words (w ∷ ws) (suc k) e = let rest : number_of ws ≡ 0 = omega (arith, e) in zero_words ws k rest

-- all words from a place on are 0 exactly if the number fits the words before it
pub above_are_zero : (count i k : ℕ) (words : List ℕ) → AreWords count words → number_of words < 2 ^ (64 * i) → i ≤ k → get_or words k 0 ≡ 0
above_are_zero count i k words h small le =
    let none : number_of (drop i words) ≡ 0 = sym (number_of-drop count i words h) ∙ div-eq_of_lt small in
    let e : i + (k - i) ≡ k = omega arith in
    ap (λ j. get_or words j 0) (sym e) ∙ sym (get_or-drop i words (k - i) 0) ∙ zero_words (drop i words) (k - i) none

pub fits_below : (count i : ℕ) (words : List ℕ) → AreWords count words → ((k : ℕ) → i ≤ k → get_or words k 0 ≡ 0) → number_of words < 2 ^ (64 * i)
fits_below count i words h zeros =
    let none : number_of (drop i words) ≡ 0 = all_zero (drop i words) (λ k. get_or-drop i words k 0 ∙ zeros (i + k) (omega arith)) in
    let quotient : number_of words / 2 ^ (64 * i) < 1 = omega (arith, number_of-drop count i words h, none) in
    let room : number_of words < 1 * 2 ^ (64 * i) = (div-lt_iff_lt-mul (pow_pos (64 * i))).0 quotient in
    omega (arith, room)

-- numbers whose words are the same, as far as they aren't 0, are the same
pub same_words : (words other : List ℕ) → ((k : ℕ) → get_or words k 0 ≡ get_or other k 0) → number_of words ≡ number_of other
same_words [] other h = sym (all_zero other (λ k. sym (h k)))
same_words (w ∷ ws) [] h = all_zero (w ∷ ws) h
same_words (w ∷ ws) (x ∷ xs) h = let rest = same_words ws xs (λ k. h (suc k)) in omega (arith, rest, h 0)

pub zero_either : (words : List ℕ) (i k : ℕ) → length words ≤ i → (k < i → get_or words k 0 ≡ 0) → get_or words k 0 ≡ 0
zero_either words i k size below = which (cases_lt k (length words))
  where
    which : (k < length words) ⊎ (length words ≤ k) → get_or words k 0 ≡ 0
    which (inl l) = below (omega arith)
    which (inr g) = get_or-eq_default words 0 {n = k} g

-- one more word is copied
pub copied : (words out : List ℕ) (i k x : ℕ) → i < length out → x ≡ get_or words i 0 → ((j : ℕ) → j < i → get_or out j 0 ≡ get_or words j 0) → k < i + 1
    → get_or (slice_set out i x) k 0 ≡ get_or words k 0
copied words out i k x within is done less = which (cases_lt k i)
  where
    which : (k < i) ⊎ (i ≤ k) → get_or (slice_set out i x) k 0 ≡ get_or words k 0
    which (inl l) = let apart : k ≢ i = omega arith in get_or-set_other out i k x 0 apart ∙ done k l
    which (inr g) =
        let e : k ≡ i = omega arith in
        ap (λ j. get_or (slice_set out i x) j 0) e ∙ get_or-set_same out i x 0 within ∙ is ∙ ap (λ j. get_or words j 0) (sym e)

pub left_zero : (out : List ℕ) (i k x : ℕ) → i < k → get_or out k 0 ≡ 0 → get_or (slice_set out i x) k 0 ≡ 0
left_zero out i k x less was = let apart : k ≢ i = omega arith in get_or-set_other out i k x 0 apart ∙ was

-- the whole number was copied
pub whole_copied : (count : ℕ) (words out : List ℕ) (i size : ℕ) → AreWords count words → length words ≡ count → number_of words < 2 ^ (64 * size)
    → ((k : ℕ) → k < i → get_or out k 0 ≡ get_or words k 0) → ((k : ℕ) → i ≤ k → get_or out k 0 ≡ 0) → ((count ≤ i) ⊎ (size ≤ i))
    → number_of out ≡ number_of words
whole_copied count words out i size h long small done left end = same_words out words at
  where
    rest : (k : ℕ) → i ≤ k → (count ≤ i) ⊎ (size ≤ i) → get_or words k 0 ≡ 0
    rest k g (inl e) = let beyond : length words ≤ k = omega arith in get_or-eq_default words 0 {n = k} beyond
    rest k g (inr e) = let beyond : size ≤ k = omega arith in above_are_zero count size k words h small beyond

    which : (k : ℕ) → (k < i) ⊎ (i ≤ k) → get_or out k 0 ≡ get_or words k 0
    which k (inl l) = done k l
    which k (inr g) = left k g ∙ sym (rest k g end)

    at : (k : ℕ) → get_or out k 0 ≡ get_or words k 0
    at k = which k (cases_lt k i)

pub zero_at : (count k : ℕ) → get_or (replicate {A = ℕ} count 0) k 0 ≡ 0
zero_at zero k = refl
zero_at (suc count) zero = refl
zero_at (suc count) (suc k) = zero_at count k

-- a number is below the power of its words
pub below_power : (count : ℕ) (words : List ℕ) → AreWords count words → number_of words < 2 ^ (64 * count)
below_power count words h = fits_below count count words h (λ k above. get_or-eq_default words 0 {n = k} (at count words k h above))
  where
    at : (count : ℕ) (words : List ℕ) (k : ℕ) → AreWords count words → count ≤ k → length words ≤ k
    at zero [] k h above = above
    at zero (w ∷ ws) k h above = absurd h
    at (suc count) [] k h above = absurd h
    at (suc count) (w ∷ ws) zero h above = absurd (omega arith)
    at (suc count) (w ∷ ws) (suc k) h above = let rest : length ws ≤ k = at count ws k h.1 (omega (arith, above)) in omega (arith, rest)
