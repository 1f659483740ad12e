-- Sets of atoms as words: an atom is in a set where its bit of its word is 1.
use Rattle.std.proofs.Common.{◌≡◌, ℕ, zero, suc, ◌+◌, ◌-◌, ◌*◌, ◌/◌, ◌%◌, ◌^◌, ◌<◌, ◌≤◌, ◌≢◌, ◌⊎◌, Bool, true, false, not, IsTrue, ◌&&◌, ◌||◌, ◌==◌, List, [], ◌∷◌, length, get_or, slice_set, bit_and, bit_or, refl, sym, ap, subst, arith, ◌∙◌, inl, inr, lit<}
use Rattle.std.specs.Int.{bit_not, bit_at, w64}
use Rattle.std.proofs.Math.ListN.{get_or-eq_default}
use Rattle.std.proofs.lemmas.Bool.{false≢true, cases_lt}
use Rattle.std.proofs.lemmas.Nat.Bits.{bit_at_above, bit_at_cat_low, bit_at_cat_high}
use Rattle.std.proofs.lemmas.List.{get_or-set_other, get_or-set_same}
use Rattle.std.proofs.lemmas.Nat.{and_le_r}
use Rattle.pb_packed.specs.Words.{number_of, AreWords}
use Rattle.pb_task.specs.Strips.{has_atom}
use Rattle.pb_task.proofs.Callers.{both_atoms, any_atom, no_atom, common_all, all_common}

-- ---- bits of a number

pub not_above : (set count atom : ℕ) → set < 2 ^ count → count ≤ atom → has_atom set atom ≡ false
not_above set count atom small above = ap (λ bit. bit == 1) (bit_at_above set count atom small above)

placed_below : (high count low atom : ℕ) → atom < count → has_atom (high * 2 ^ count + low) atom ≡ has_atom low atom
placed_below high count low atom less = ap (λ bit. bit == 1) (bit_at_cat_low high count low atom less)

placed_above : (high count low atom : ℕ) → low < 2 ^ count → has_atom (high * 2 ^ count + low) (count + atom) ≡ has_atom high atom
placed_above high count low atom small =
    let place : count + atom - count ≡ atom = omega arith in
    ap (λ bit. bit == 1) (bit_at_cat_high high count low (count + atom) small (omega arith) ∙ ap (λ i. bit_at high i) place)

-- ---- words

pub word_small : (count k : ℕ) (words : List ℕ) → AreWords count words → get_or words k 0 < 2 ^ 64
word_small zero k [] h = lit< tt
word_small zero k (w ∷ ws) h = absurd h
word_small (suc count) k [] h = absurd h
word_small (suc count) zero (w ∷ ws) h = h.0
word_small (suc count) (suc k) (w ∷ ws) h = word_small count k ws h.1

none : (atom : ℕ) → has_atom 0 atom ≡ false
none atom = not_above 0 0 atom (lit< tt) (omega arith)

pub word_has : (count k i : ℕ) (words : List ℕ) → AreWords count words → i < 64 → has_atom (number_of words) (64 * k + i) ≡ has_atom (get_or words k 0) i
word_has zero k i [] h less = none (64 * k + i) ∙ sym (none i)
word_has zero k i (w ∷ ws) h less = absurd h
word_has (suc count) k i [] h less = absurd h
word_has (suc count) zero i (w ∷ ws) h less =
    let here : 64 * zero + i ≡ i = omega arith in
    ap (λ atom. has_atom (number_of ws * 2 ^ 64 + w) atom) here ∙ placed_below (number_of ws) 64 w i less
word_has (suc count) (suc k) i (w ∷ ws) h less =
    let here : 64 * suc k + i ≡ 64 + (64 * k + i) = omega arith in
    ap (λ atom. has_atom (number_of ws * 2 ^ 64 + w) atom) here ∙ placed_above (number_of ws) 64 w (64 * k + i) h.0 ∙ word_has count k i ws h.1 less

-- what is so of each bit of each word is so of every atom
every : (P : ℕ → Type 0) → ((k i : ℕ) → i < 64 → P (64 * k + i)) → (atom : ℕ) → P atom
every P all atom =
    let here : 64 * (atom / 64) + atom % 64 ≡ atom = omega arith in
    let less : atom % 64 < 64 = omega arith in
    subst P here (all (atom / 64) (atom % 64) less)

nothing_at : (set : List ℕ) (k i : ℕ) → length set ≤ k → has_atom (get_or set k 0) i ≡ false
nothing_at set k i past = ap (λ w. has_atom w i) (get_or-eq_default set 0 {n = k} past) ∙ none i

kept : (test : Bool) → (test && not false) ≡ test
kept true = refl
kept false = refl

none_kept : (test : Bool) → (test && false) ≡ false
none_kept true = refl
none_kept false = refl

-- ---- words that are changed one after another

-- the word of a place after an action
abbrev pub changed_at : (held adds deletes tracked : List ℕ) (k : ℕ) → ℕ
changed_at held adds deletes tracked k =
    bit_and (bit_or (get_or adds k 0) (bit_and (get_or held k 0) (bit_not w64 (get_or deletes k 0)))) (get_or tracked k 0)

pub changed_to : (after held adds deletes tracked : List ℕ) → length held ≤ length after → AreWords (length after) after → AreWords (length held) held
    → AreWords 16 adds → AreWords 16 deletes → AreWords 16 tracked → number_of adds < 2 ^ (64 * length after)
    → ((k : ℕ) → k < length after → get_or after k 0 ≡ changed_at held adds deletes tracked k)
    → (atom : ℕ) → has_atom (number_of after) atom
    ≡ ((has_atom (number_of adds) atom || (has_atom (number_of held) atom && not (has_atom (number_of deletes) atom))) && has_atom (number_of tracked) atom)
changed_to after held adds deletes tracked room f h a d t fits done =
    every (λ atom. has_atom (number_of after) atom
    ≡ ((has_atom (number_of adds) atom || (has_atom (number_of held) atom && not (has_atom (number_of deletes) atom))) && has_atom (number_of tracked) atom))
    (λ k i less. at k i less (cases_lt k (length after))) where
      at : (k i : ℕ) → i < 64 → (k < length after) ⊎ (length after ≤ k) → has_atom (number_of after) (64 * k + i)
          ≡ ((has_atom (number_of adds) (64 * k + i) || (has_atom (number_of held) (64 * k + i) && not (has_atom (number_of deletes) (64 * k + i)))) && has_atom (number_of tracked) (64 * k + i))
      at k i less (inl inside) =
          let added = has_atom (get_or adds k 0) i in
          let before = has_atom (get_or held k 0) i in
          let deleted = has_atom (get_or deletes k 0) i in
          let left = bit_and (get_or held k 0) (bit_not w64 (get_or deletes k 0)) in
          word_has (length after) k i after f less ∙ ap (λ w. has_atom w i) (done k inside)
          ∙ both_atoms (bit_or (get_or adds k 0) left) (get_or tracked k 0) i
          ∙ ap (λ b. b && has_atom (get_or tracked k 0) i) (any_atom (get_or adds k 0) left i)
          ∙ ap (λ b. (added || b) && has_atom (get_or tracked k 0) i) (both_atoms (get_or held k 0) (bit_not w64 (get_or deletes k 0)) i)
          ∙ ap (λ b. (added || (before && b)) && has_atom (get_or tracked k 0) i) (no_atom w64 (get_or deletes k 0) i (word_small 16 k deletes d) less)
          ∙ ap (λ b. (b || (before && not deleted)) && has_atom (get_or tracked k 0) i) (sym (word_has 16 k i adds a less))
          ∙ ap (λ b. (has_atom (number_of adds) (64 * k + i) || (b && not deleted)) && has_atom (get_or tracked k 0) i) (sym (word_has (length held) k i held h less))
          ∙ ap (λ b. (has_atom (number_of adds) (64 * k + i) || (has_atom (number_of held) (64 * k + i) && not b)) && has_atom (get_or tracked k 0) i) (sym (word_has 16 k i deletes d less))
          ∙ ap (λ b. (has_atom (number_of adds) (64 * k + i) || (has_atom (number_of held) (64 * k + i) && not (has_atom (number_of deletes) (64 * k + i)))) && b) (sym (word_has 16 k i tracked t less))
      at k i less (inr past) =
          let deleted = has_atom (number_of deletes) (64 * k + i) in
          let kept_atom = has_atom (number_of tracked) (64 * k + i) in
          let no_add : has_atom (number_of adds) (64 * k + i) ≡ false = not_above (number_of adds) (64 * length after) (64 * k + i) fits (omega (arith, past)) in
          let not_held : has_atom (number_of held) (64 * k + i) ≡ false = word_has (length held) k i held h less ∙ nothing_at held k i (omega (arith, past, room)) in
          word_has (length after) k i after f less ∙ nothing_at after k i past
          ∙ sym (ap (λ b. (b || (has_atom (number_of held) (64 * k + i) && not deleted)) && kept_atom) no_add ∙ ap (λ b. (b && not deleted) && kept_atom) not_held)

-- words that are small are words
pub are_words : (words : List ℕ) → ((k : ℕ) → k < length words → get_or words k 0 < 2 ^ 64) → AreWords (length words) words
are_words [] small = tt
are_words (w ∷ ws) small = (small 0 (omega arith), are_words ws (λ k less. small (suc k) (omega (arith, less))))

pub changed_small : (held adds deletes tracked : List ℕ) (k : ℕ) → AreWords 16 tracked → changed_at held adds deletes tracked k < 2 ^ 64
changed_small held adds deletes tracked k t =
    let left = bit_or (get_or adds k 0) (bit_and (get_or held k 0) (bit_not w64 (get_or deletes k 0))) in
    omega (arith, and_le_r left (get_or tracked k 0), word_small 16 k tracked t)

pub kept_in : (count : ℕ) (before after set : List ℕ) → length set ≡ length before → AreWords count before → AreWords count after → AreWords (length set) set
    → ((k : ℕ) → k < length set → get_or after k 0 ≡ bit_and (get_or before k 0) (get_or set k 0))
    → ((k : ℕ) → length set ≤ k → get_or after k 0 ≡ get_or before k 0)
    → (atom : ℕ) → has_atom (number_of after) atom ≡ (has_atom (number_of before) atom && has_atom (number_of set) atom)
kept_in count before after set long b a s done rest =
    every (λ atom. has_atom (number_of after) atom ≡ (has_atom (number_of before) atom && has_atom (number_of set) atom)) at where
      word : (k i : ℕ) → (k < length set) ⊎ (length set ≤ k) → has_atom (get_or after k 0) i ≡ (has_atom (get_or before k 0) i && has_atom (get_or set k 0) i)
      word k i (inl inside) = ap (λ w. has_atom w i) (done k inside) ∙ both_atoms (get_or before k 0) (get_or set k 0) i
      word k i (inr past) =
          ap (λ w. has_atom w i) (rest k past) ∙ nothing_at before k i (omega (arith, long, past)) ∙ sym (none_kept (has_atom (get_or before k 0) i))
          ∙ ap (λ t. has_atom (get_or before k 0) i && t) (sym (nothing_at set k i past))

      at : (k i : ℕ) → i < 64 → has_atom (number_of after) (64 * k + i) ≡ (has_atom (number_of before) (64 * k + i) && has_atom (number_of set) (64 * k + i))
      at k i less =
          word_has count k i after a less ∙ word k i (cases_lt k (length set))
          ∙ ap (λ t. t && has_atom (get_or set k 0) i) (sym (word_has count k i before b less))
          ∙ ap (λ t. has_atom (number_of before) (64 * k + i) && t) (sym (word_has (length set) k i set s less))

-- ---- one set within another

abbrev pub Held : (small large : ℕ) → Type 0
Held small large = (atom : ℕ) → IsTrue (has_atom small atom) → IsTrue (has_atom large atom)

pub from_words : (small large : List ℕ) → AreWords (length small) small → AreWords (length large) large
    → ((k : ℕ) → k < length small → bit_and (get_or small k 0) (get_or large k 0) ≡ get_or small k 0) → Held (number_of small) (number_of large)
from_words small large s l common = every (λ atom. IsTrue (has_atom (number_of small) atom) → IsTrue (has_atom (number_of large) atom)) at where
  word : (k i : ℕ) → i < 64 → (k < length small) ⊎ (length small ≤ k) → has_atom (get_or small k 0) i ≡ true → has_atom (get_or large k 0) i ≡ true
  word k i less (inl inside) is = common_all (get_or small k 0) (get_or large k 0) (common k inside) i is
  word k i less (inr past) is = absurd (false≢true (sym (nothing_at small k i past) ∙ is))

  at : (k i : ℕ) → i < 64 → IsTrue (has_atom (number_of small) (64 * k + i)) → IsTrue (has_atom (number_of large) (64 * k + i))
  at k i less is =
      word_has (length large) k i large l less ∙ word k i less (cases_lt k (length small)) (sym (word_has (length small) k i small s less) ∙ is)

pub to_words : (small large : List ℕ) → AreWords (length small) small → AreWords (length large) large → Held (number_of small) (number_of large)
    → (k : ℕ) → bit_and (get_or small k 0) (get_or large k 0) ≡ get_or small k 0
to_words small large s l held k =
    all_common 64 (get_or small k 0) (get_or large k 0) (word_small (length small) k small s)
    (λ i less is. sym (word_has (length large) k i large l less) ∙ held (64 * k + i) (word_has (length small) k i small s less ∙ is))

-- ---- one more word is replaced

pub one_replaced : (f : ℕ → ℕ) (words : List ℕ) (i x : ℕ) → i < length words → x ≡ f i → ((k : ℕ) → k < i → get_or words k 0 ≡ f k)
    → (k : ℕ) → k < i + 1 → get_or (slice_set words i x) k 0 ≡ f k
one_replaced f words i x inside is done k less = which (cases_lt k i) where
  which : (k < i) ⊎ (i ≤ k) → get_or (slice_set words i x) k 0 ≡ f k
  which (inl before) = let apart : k ≢ i = omega arith in get_or-set_other words i k x 0 apart ∙ done k before
  which (inr from) =
      let here : k ≡ i = omega arith in
      ap (λ j. get_or (slice_set words i x) j 0) here ∙ get_or-set_same words i x 0 inside ∙ is ∙ ap f (sym here)

pub others_stay : (before words : List ℕ) (i x : ℕ) → ((k : ℕ) → i ≤ k → get_or words k 0 ≡ get_or before k 0)
    → (k : ℕ) → i + 1 ≤ k → get_or (slice_set words i x) k 0 ≡ get_or before k 0
others_stay before words i x rest k past = let apart : k ≢ i = omega arith in get_or-set_other words i k x 0 apart ∙ rest k (omega arith)
