-- Numbers in flat words: what is too large for their width isn't one of them.
use Rattle.std.proofs.Common.{◌≡◌, ℕ, zero, suc, ◌+◌, ◌*◌, ◌^◌, ◌<◌, ◌≤◌, ◌⊎◌, inl, inr, ◌↔◌, Bool, false, IsTrue, List, [], ◌∷◌, ◌++◌, length, take, drop, slice_index, refl, ap, sym, subst, ◌∙◌, arith}
use Rattle.std.proofs.lemmas.Bool.{cases_lt, false≢true}
use Rattle.std.proofs.lemmas.List.{length-take, length-drop, take-append-le, drop-append-le}
use Rattle.std.proofs.Math.Nat.{mul_comm}
use Rattle.pb_packed.specs.Words.{number_of}
use Rattle.pb_task.specs.FlatSets.{sets_of}
use Rattle.pb_task.proofs.Callers.{below, dropped, many_sets, set_at, taken, within}
use Rattle.pb_check.specs.Numbers.{Flat, flat_of, AreFlat}

no_words : (words : List ℕ) → length words ≡ 0 → words ≡ []
no_words [] none = refl
no_words (w ∷ ws) none = absurd (omega (arith, none))

-- numbers are put behind others
pub flat_both : (width count more : ℕ) (words others : List ℕ) → length words ≡ width * count
    → sets_of width (count + more) (words ++ others) ≡ sets_of width count words ++ sets_of width more others
flat_both width zero more words others long =
    let none : length words ≡ 0 = omega (arith, long) in
    let all : 0 + more ≡ more = omega arith in
    ap (λ (ws : List ℕ). sets_of width (0 + more) (ws ++ others)) (no_words words none) ∙ ap (λ k. sets_of width k others) all
flat_both width (suc count) more words others long =
    let sum : width * suc count ≡ width + width * count = omega arith in
    let room : width ≤ length words = omega (arith, long, sum) in
    let rest : length (drop width words) ≡ width * count = length-drop width words ∙ omega (arith, long, sum) in
    let next : suc count + more ≡ suc (count + more) = omega arith in
    ap (λ k. sets_of width k (words ++ others)) next
    ∙ ap (λ ws. number_of ws ∷ sets_of width (count + more) (drop width (words ++ others))) (take-append-le width words others room)
    ∙ ap (λ ws. number_of (take width words) ∷ sets_of width (count + more) ws) (drop-append-le width words others room)
    ∙ ap (λ ns. number_of (take width words) ∷ ns) (flat_both width count more (drop width words) others rest)

-- each number is below what its words can hold
small_at : (width count i : ℕ) (words : List ℕ) → AreFlat width count words → i < count → slice_index (sets_of width count words) i < 2 ^ (64 * width)
small_at width count i words are inside =
    let rest = drop (width * i) words in
    let long : length (take width rest) ≡ width =
    omega (arith, length-take width rest, length-drop (width * i) words, are.2, within width count i inside, mul_comm width i) in
    let fits : number_of (take width rest) < 2 ^ (64 * length (take width rest)) = below (length (take width rest)) (take width rest) (taken width rest (dropped (width * i) words are.3)) in
    subst (λ (n : ℕ). n < 2 ^ (64 * width)) (sym (set_at width count i words inside)) (subst (λ (k : ℕ). number_of (take width rest) < 2 ^ (64 * k)) long fits)

-- a number that doesn't fit the words is in no place
pub none_above : (width count : ℕ) (words : List ℕ) (flat : Flat) (number : ℕ) → AreFlat width count words → flat_of width count words ≡ flat → 2 ^ (64 * width) ≤ number
    → (i : ℕ) → i < length flat.numbers → slice_index flat.numbers i ≡ number → ⊥
none_above width count words flat number are is wide i inside same =
    let many : count ≡ length flat.numbers = sym (many_sets width count words) ∙ ap (λ (f : Flat). length f.numbers) is in
    let small = small_at width count i words are (omega (arith, many, inside)) in
    let at : slice_index (sets_of width count words) i ≡ number = ap (λ (f : Flat). slice_index f.numbers i) is ∙ same in
    let below : number < 2 ^ (64 * width) = subst (λ (n : ℕ). n < 2 ^ (64 * width)) at small in
    omega (arith, below, wide)

-- a test of the size that fails
pub not_small : (fits : Bool) (n m : ℕ) → (IsTrue fits ↔ (n < m)) → fits ≡ false → m ≤ n
not_small fits n m h off = which (cases_lt n m)
  where
    which : (n < m) ⊎ (m ≤ n) → m ≤ n
    which (inl less) = absurd (false≢true (sym off ∙ h.1 less))
    which (inr above) = above
