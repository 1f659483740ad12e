-- Sets of atoms as words: an atom is in a set where its bit of its word is 1.
use Rattle.std.proofs.Common.{◌≡◌, ℕ, zero, suc, ◌+◌, ◌*◌, ◌/◌, ◌%◌, ◌^◌, ◌<◌, ◌≤◌, ◌≢◌, ◌⊎◌, Bool, true, false, not, IsTrue, ◌&&◌, ◌||◌, List, [], ◌∷◌, length, ◌++◌, take, drop, get_or, slice_set, bit_and, bit_or, refl, sym, ap, subst, arith, ◌∙◌, inl, inr, lit<}
use Rattle.std.specs.Int.{bit_not, w64}
use Rattle.std.proofs.Math.ListN.{get_or-eq_default}
use Rattle.std.proofs.lemmas.Bool.{false≢true, cases_lt}
use Rattle.std.proofs.lemmas.Nat.{pow-add, mul-add-lt}
use Rattle.std.proofs.lemmas.List.{get_or-take, length-take, get_or-set_other, get_or-set_same}
use Rattle.pb_packed.specs.Words.{number_of, AreWords}
use Rattle.pb_packed.proofs.Callers.{above_are_zero, same_words}
use Rattle.pb_task.specs.Strips.{has_atom}
use Rattle.pb_task.proofs.AtomSets.{not_above, placed_below, placed_above, both_atoms, any_atom, no_atom, common_all, all_common}

-- ---- words

pub word_small : (count k : ℕ) (words : List ℕ) → AreWords count words → get_or words k 0 < 2 ^ 64
word_small zero k [] h = lit< tt
word_small zero k (w ∷ ws) h = absurd h
word_small (suc count) k [] h = absurd h
word_small (suc count) zero (w ∷ ws) h = h.0
word_small (suc count) (suc k) (w ∷ ws) h = word_small count k ws h.1

-- a number is below what its words can hold
pub below : (count : ℕ) (words : List ℕ) → AreWords count words → number_of words < 2 ^ (64 * count)
below zero [] h = lit< tt
below zero (w ∷ ws) h = absurd h
below (suc count) [] h = absurd h
below (suc count) (w ∷ ws) h =
    let sum : 64 + 64 * count ≡ 64 * suc count = omega arith in
    let power : 2 ^ 64 * 2 ^ (64 * count) ≡ 2 ^ (64 * suc count) = sym (pow-add 2 64 (64 * count)) ∙ ap (λ k. 2 ^ k) sum in
    subst (λ n. number_of ws * 2 ^ 64 + w < n) power (mul-add-lt (number_of ws) (2 ^ 64) w (2 ^ (64 * count)) (below count ws h.1) h.0)

pub dropped : (k : ℕ) (words : List ℕ) → AreWords (length words) words → AreWords (length (drop k words)) (drop k words)
dropped zero words h = h
dropped (suc k) [] h = h
dropped (suc k) (w ∷ ws) h = dropped k ws h.1

pub taken : (k : ℕ) (words : List ℕ) → AreWords (length words) words → AreWords (length (take k words)) (take k words)
taken zero words h = tt
taken (suc k) [] h = tt
taken (suc k) (w ∷ ws) h = (h.0, taken k ws h.1)

pub appended : (words more : List ℕ) → AreWords (length words) words → AreWords (length more) more → AreWords (length (words ++ more)) (words ++ more)
appended [] more h k = k
appended (w ∷ ws) more h k = (h.0, appended ws more h.1 k)

-- a number has no words above those that hold it
pub held_by : (count width : ℕ) (words : List ℕ) → AreWords count words → number_of words < 2 ^ (64 * width) → number_of (take width words) ≡ number_of words
held_by count width words h small = same_words (take width words) words (λ k. which k (cases_lt k width)) where
  which : (k : ℕ) → (k < width) ⊎ (width ≤ k) → get_or (take width words) k 0 ≡ get_or words k 0
  which k (inl less) = get_or-take width words k 0 less
  which k (inr past) =
      let short : length (take width words) ≤ k = omega (arith, length-take width words, past) in
      get_or-eq_default (take width words) 0 {n = k} short ∙ sym (above_are_zero count width k words h small past)

-- ---- atoms

none : (atom : ℕ) → has_atom 0 atom ≡ false
none atom = not_above 0 0 atom (lit< tt) (omega arith)

pub word_has : (count k i : ℕ) (words : List ℕ) → AreWords count words → i < 64 → has_atom (number_of words) (64 * k + i) ≡ has_atom (get_or words k 0) i
word_has zero k i [] h less = none (64 * k + i) ∙ sym (none i)
word_has zero k i (w ∷ ws) h less = absurd h
word_has (suc count) k i [] h less = absurd h
word_has (suc count) zero i (w ∷ ws) h less =
    let here : 64 * zero + i ≡ i = omega arith in
    ap (λ atom. has_atom (number_of ws * 2 ^ 64 + w) atom) here ∙ placed_below (number_of ws) 64 w i less
word_has (suc count) (suc k) i (w ∷ ws) h less =
    let here : 64 * suc k + i ≡ 64 + (64 * k + i) = omega arith in
    ap (λ atom. has_atom (number_of ws * 2 ^ 64 + w) atom) here ∙ placed_above (number_of ws) 64 w (64 * k + i) h.0 ∙ word_has count k i ws h.1 less

-- what is so of each bit of each word is so of every atom
pub every : (P : ℕ → Type 0) → ((k i : ℕ) → i < 64 → P (64 * k + i)) → (atom : ℕ) → P atom
every P all atom =
    let here : 64 * (atom / 64) + atom % 64 ≡ atom = omega arith in
    let less : atom % 64 < 64 = omega arith in
    subst P here (all (atom / 64) (atom % 64) less)

nothing_at : (set : List ℕ) (k i : ℕ) → length set ≤ k → has_atom (get_or set k 0) i ≡ false
nothing_at set k i past = ap (λ w. has_atom w i) (get_or-eq_default set 0 {n = k} past) ∙ none i

kept : (test : Bool) → (test && not false) ≡ test
kept true = refl
kept false = refl

-- ---- words that are changed one after another

pub taken_out : (count : ℕ) (before after set : List ℕ) → AreWords count before → AreWords count after → AreWords (length set) set
    → ((k : ℕ) → k < length set → get_or after k 0 ≡ bit_and (get_or before k 0) (bit_not w64 (get_or set k 0)))
    → ((k : ℕ) → length set ≤ k → get_or after k 0 ≡ get_or before k 0)
    → (atom : ℕ) → has_atom (number_of after) atom ≡ (has_atom (number_of before) atom && not (has_atom (number_of set) atom))
taken_out count before after set b a s done rest =
    every (λ atom. has_atom (number_of after) atom ≡ (has_atom (number_of before) atom && not (has_atom (number_of set) atom))) at where
      word : (k i : ℕ) → i < 64 → (k < length set) ⊎ (length set ≤ k) → has_atom (get_or after k 0) i ≡ (has_atom (get_or before k 0) i && not (has_atom (get_or set k 0) i))
      word k i less (inl inside) =
          ap (λ w. has_atom w i) (done k inside) ∙ both_atoms (get_or before k 0) (bit_not w64 (get_or set k 0)) i
          ∙ ap (λ t. has_atom (get_or before k 0) i && t) (no_atom w64 (get_or set k 0) i (word_small (length set) k set s) less)
      word k i less (inr past) =
          ap (λ w. has_atom w i) (rest k past) ∙ sym (kept (has_atom (get_or before k 0) i)) ∙ ap (λ t. has_atom (get_or before k 0) i && not t) (sym (nothing_at set k i past))

      at : (k i : ℕ) → i < 64 → has_atom (number_of after) (64 * k + i) ≡ (has_atom (number_of before) (64 * k + i) && not (has_atom (number_of set) (64 * k + i)))
      at k i less =
          word_has count k i after a less ∙ word k i less (cases_lt k (length set))
          ∙ ap (λ t. t && not (has_atom (get_or set k 0) i)) (sym (word_has count k i before b less))
          ∙ ap (λ t. has_atom (number_of before) (64 * k + i) && not t) (sym (word_has (length set) k i set s less))

pub put_into : (count : ℕ) (before after set : List ℕ) → AreWords count before → AreWords count after → AreWords (length set) set
    → ((k : ℕ) → k < length set → get_or after k 0 ≡ bit_or (get_or set k 0) (get_or before k 0))
    → ((k : ℕ) → length set ≤ k → get_or after k 0 ≡ get_or before k 0)
    → (atom : ℕ) → has_atom (number_of after) atom ≡ (has_atom (number_of set) atom || has_atom (number_of before) atom)
put_into count before after set b a s done rest =
    every (λ atom. has_atom (number_of after) atom ≡ (has_atom (number_of set) atom || has_atom (number_of before) atom)) at where
      word : (k i : ℕ) → (k < length set) ⊎ (length set ≤ k) → has_atom (get_or after k 0) i ≡ (has_atom (get_or set k 0) i || has_atom (get_or before k 0) i)
      word k i (inl inside) = ap (λ w. has_atom w i) (done k inside) ∙ any_atom (get_or set k 0) (get_or before k 0) i
      word k i (inr past) = ap (λ w. has_atom w i) (rest k past) ∙ ap (λ t. t || has_atom (get_or before k 0) i) (sym (nothing_at set k i past))

      at : (k i : ℕ) → i < 64 → has_atom (number_of after) (64 * k + i) ≡ (has_atom (number_of set) (64 * k + i) || has_atom (number_of before) (64 * k + i))
      at k i less =
          word_has count k i after a less ∙ word k i (cases_lt k (length set))
          ∙ ap (λ t. t || has_atom (get_or before k 0) i) (sym (word_has (length set) k i set s less))
          ∙ ap (λ t. has_atom (number_of set) (64 * k + i) || t) (sym (word_has count k i before b less))

-- ---- one set within another

abbrev pub Held : (small large : ℕ) → Type 0
Held small large = (atom : ℕ) → IsTrue (has_atom small atom) → IsTrue (has_atom large atom)

pub from_words : (small large : List ℕ) → AreWords (length small) small → AreWords (length large) large
    → ((k : ℕ) → k < length small → bit_and (get_or small k 0) (get_or large k 0) ≡ get_or small k 0) → Held (number_of small) (number_of large)
from_words small large s l common = every (λ atom. IsTrue (has_atom (number_of small) atom) → IsTrue (has_atom (number_of large) atom)) at where
  word : (k i : ℕ) → i < 64 → (k < length small) ⊎ (length small ≤ k) → has_atom (get_or small k 0) i ≡ true → has_atom (get_or large k 0) i ≡ true
  word k i less (inl inside) is = common_all (get_or small k 0) (get_or large k 0) (common k inside) i is
  word k i less (inr past) is = absurd (false≢true (sym (nothing_at small k i past) ∙ is))

  at : (k i : ℕ) → i < 64 → IsTrue (has_atom (number_of small) (64 * k + i)) → IsTrue (has_atom (number_of large) (64 * k + i))
  at k i less is =
      word_has (length large) k i large l less ∙ word k i less (cases_lt k (length small)) (sym (word_has (length small) k i small s less) ∙ is)

pub to_words : (small large : List ℕ) → AreWords (length small) small → AreWords (length large) large → Held (number_of small) (number_of large)
    → (k : ℕ) → bit_and (get_or small k 0) (get_or large k 0) ≡ get_or small k 0
to_words small large s l held k =
    all_common 64 (get_or small k 0) (get_or large k 0) (word_small (length small) k small s)
    (λ i less is. sym (word_has (length large) k i large l less) ∙ held (64 * k + i) (word_has (length small) k i small s less ∙ is))

-- ---- one more word is replaced

pub one_replaced : (f : ℕ → ℕ) (words : List ℕ) (i x : ℕ) → i < length words → x ≡ f i → ((k : ℕ) → k < i → get_or words k 0 ≡ f k)
    → (k : ℕ) → k < i + 1 → get_or (slice_set words i x) k 0 ≡ f k
one_replaced f words i x inside is done k less = which (cases_lt k i) where
  which : (k < i) ⊎ (i ≤ k) → get_or (slice_set words i x) k 0 ≡ f k
  which (inl before) = let apart : k ≢ i = omega arith in get_or-set_other words i k x 0 apart ∙ done k before
  which (inr from) =
      let here : k ≡ i = omega arith in
      ap (λ j. get_or (slice_set words i x) j 0) here ∙ get_or-set_same words i x 0 inside ∙ is ∙ ap f (sym here)

pub others_stay : (before words : List ℕ) (i x : ℕ) → ((k : ℕ) → i ≤ k → get_or words k 0 ≡ get_or before k 0)
    → (k : ℕ) → i + 1 ≤ k → get_or (slice_set words i x) k 0 ≡ get_or before k 0
others_stay before words i x rest k past = let apart : k ≢ i = omega arith in get_or-set_other words i k x 0 apart ∙ rest k (omega arith)
