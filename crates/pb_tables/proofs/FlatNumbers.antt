-- Numbers in flat words: what is too large for their width isn't one of them.
use Rattle.std.proofs.Common.{lit<, ◌≡◌, ℕ, ◌*◌, ◌^◌, ◌<◌, ◌≤◌, ◌⊎◌, inl, inr, ◌↔◌, Bool, false, IsTrue, List, length, take, drop, slice_index, ap, sym, subst, ◌∙◌, arith}
use Rattle.std.proofs.lemmas.Bool.{cases_lt, false≢true}
use Rattle.std.proofs.lemmas.List.{length-take, length-drop}
use Rattle.std.proofs.Math.Nat.{mul_comm, pow-le-pow_right}
use Rattle.pb_packed.specs.Words.{number_of}
use Rattle.pb_task.specs.FlatSets.{sets_of}
use Rattle.pb_task.proofs.Callers.{below, dropped, many_sets, set_at, taken, within}
use Rattle.pb_tables.specs.Flat.{FlatNumbersView, flat_of, AreFlat}

-- each number is below what its words can hold
small_at : (width count i : ℕ) (words : List ℕ) → AreFlat width count words → i < count → slice_index (sets_of width count words) i < 2 ^ (64 * width)
small_at width count i words are inside =
    let rest = drop (width * i) words in
    let long : length (take width rest) ≡ width =
    omega (arith, length-take width rest, length-drop (width * i) words, are.2, within width count i inside, mul_comm width i) in
    let fits : number_of (take width rest) < 2 ^ (64 * length (take width rest)) = below (length (take width rest)) (take width rest) (taken width rest (dropped (width * i) words are.3)) in
    subst (λ (n : ℕ). n < 2 ^ (64 * width)) (sym (set_at width count i words inside)) (subst (λ (k : ℕ). number_of (take width rest) < 2 ^ (64 * k)) long fits)

-- a number that doesn't fit the words is in no place
pub none_above : (width count : ℕ) (words : List ℕ) (flat : FlatNumbersView) (number : ℕ) → AreFlat width count words → flat_of width count words ≡ flat → 2 ^ (64 * width) ≤ number
    → (i : ℕ) → i < length flat.numbers → slice_index flat.numbers i ≡ number → ⊥
none_above width count words flat number are is wide i inside same =
    let many : count ≡ length flat.numbers = sym (many_sets width count words) ∙ ap (λ (f : FlatNumbersView). length f.numbers) is in
    let small = small_at width count i words are (omega (arith, many, inside)) in
    let at : slice_index (sets_of width count words) i ≡ number = ap (λ (f : FlatNumbersView). slice_index f.numbers i) is ∙ same in
    let below : number < 2 ^ (64 * width) = subst (λ (n : ℕ). n < 2 ^ (64 * width)) at small in
    omega (arith, below, wide)

-- a test of the size that fails
pub not_small : (fits : Bool) (n m : ℕ) → (IsTrue fits ↔ (n < m)) → fits ≡ false → m ≤ n
not_small fits n m h off = which (cases_lt n m)
  where
    which : (n < m) ⊎ (m ≤ n) → m ≤ n
    which (inl less) = absurd (false≢true (sym off ∙ h.1 less))
    which (inr above) = above

pub more_than : (count most : ℕ) → count ≤ most → 2 ^ count ≤ 2 ^ most
more_than count most few = pow-le-pow_right {n = 2} (lit< tt) {i = count} {j = most} few
