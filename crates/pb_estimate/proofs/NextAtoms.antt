-- The atoms of a set, found from one to the next by the bits of a field.
use Rattle.std.proofs.Common.{◌≡◌, ◌≢◌, ◌↔◌, IsTrue, ℕ, zero, suc, ◌+◌, ◌-◌, ◌/◌, ◌%◌, ◌^◌, ◌<◌, ◌≤◌, Bool, true, false, not, ◌&&◌, ◌||◌, [], ◌∷◌, ◌++◌, ◌==◌, if◌then◌else◌, refl, sym, ap, arith, ◌∙◌, ◌⊎◌, inl, inr}
use Rattle.std.proofs.Math.Pow.{mod-mod-pow}
use Rattle.std.proofs.lemmas.Bool.{cases_eq, cases_lt}
use Rattle.std.proofs.lemmas.Bool.Decides.{nat_tests}
use Rattle.std.proofs.lemmas.List.{append-nil}
use Rattle.std.proofs.lemmas.Nat.{field_of, shr-shr}
use Rattle.pb_packed.specs.Bits.{bits_of}
use Rattle.pb_task.specs.Strips.{has_atom}
use Rattle.pb_estimate.specs.Tables.{atoms_in}

-- ---- the list of the atoms of a set

-- where no atom is in the set from a place to the next, the list stays
pub atoms_past : (set at next : ℕ) → at ≤ next → ((atom : ℕ) → at ≤ atom → atom < next → has_atom set atom ≡ false) → atoms_in set at ≡ atoms_in set next
atoms_past set at zero le none = let e : at ≡ 0 = omega arith in ap (atoms_in set) e
atoms_past set at (suc last) le none = go (cases_lt last at) (atoms_past set at last) where
  go : (last < at) ⊎ (at ≤ last) → (at ≤ last → ((atom : ℕ) → at ≤ atom → atom < last → has_atom set atom ≡ false) → atoms_in set at ≡ atoms_in set last) → atoms_in set at ≡ atoms_in set (suc last)
  go (inl less) rest = let e : at ≡ suc last = omega arith in ap (atoms_in set) e
  go (inr before) rest =
      rest before (λ atom above less. none atom above (omega (arith, less)))
      ∙ sym (append-nil (atoms_in set last))
      ∙ ap (λ test. atoms_in set last ++ (if test then last ∷ [] else [])) (sym (none last before (omega arith)))

-- an atom of the set and those to the next
pub atoms_more : (set atom next : ℕ) → has_atom set atom ≡ true → atom + 1 ≤ next → ((a : ℕ) → atom + 1 ≤ a → a < next → has_atom set a ≡ false)
    → atoms_in set atom ++ atom ∷ [] ≡ atoms_in set next
atoms_more set atom next has le none =
    let one : suc atom ≡ atom + 1 = omega arith in
    ap (λ test. atoms_in set atom ++ (if test then atom ∷ [] else [])) (sym has)
    ∙ ap (atoms_in set) one
    ∙ atoms_past set (atom + 1) next le none

-- ---- sets with more atoms

-- what a test of a bit says
pub bit_has : (set atom : ℕ) (result : Bool) → (IsTrue result ↔ (bits_of set atom 1 ≡ 1)) → has_atom set atom ≡ result
bit_has set atom true h = ap (λ n. n == 1) (h.0 refl)
bit_has set atom false h = go (has_atom set atom) refl where
  go : (test : Bool) → has_atom set atom ≡ test → has_atom set atom ≡ false
  go false e = e
  go true e = let one : bits_of set atom 1 ≡ 1 = grind (arith, nat_tests, e) in
      let wrong : false ≡ true = h.1 one in absurd (let no : ⊥ = cc in no)

-- numbers that differ in one bit at most
pub others_same : (n m at : ℕ) → n / 2 ^ (at + 1) ≡ m / 2 ^ (at + 1) → n % 2 ^ at ≡ m % 2 ^ at → (atom : ℕ) → atom ≢ at → has_atom n atom ≡ has_atom m atom
others_same n m at high low atom apart = ap (λ bit. bit == 1) (go (cases_lt atom at)) where
  below : (k : ℕ) → atom < at → k % 2 ^ at / 2 ^ atom % 2 ≡ bits_of k atom 1
  below k less =
      let sum : (at - atom) + atom ≡ at = omega arith in
      let front : (at - atom - 1) + 1 ≡ at - atom = omega arith in
      ap (λ j. k % 2 ^ j / 2 ^ atom % 2) (sym sum)
      ∙ ap (λ j. j % 2) (field_of k (at - atom) atom)
      ∙ ap (λ j. k / 2 ^ atom % 2 ^ j % 2) (sym front)
      ∙ mod-mod-pow (k / 2 ^ atom) (at - atom - 1) 1

  above : (k : ℕ) → at < atom → k / 2 ^ (at + 1) / 2 ^ (atom - (at + 1)) % 2 ≡ bits_of k atom 1
  above k more =
      let sum : at + 1 + (atom - (at + 1)) ≡ atom = omega arith in
      ap (λ j. j % 2) (shr-shr k (at + 1) (atom - (at + 1))) ∙ ap (λ j. k / 2 ^ j % 2) sum

  go : (atom < at) ⊎ (at ≤ atom) → bits_of n atom 1 ≡ bits_of m atom 1
  go (inl less) = sym (below n less) ∙ ap (λ j. j / 2 ^ atom % 2) low ∙ below m less
  go (inr from) =
      let more : at < atom = omega (arith, from, apart) in
      sym (above n more) ∙ ap (λ j. j / 2 ^ (atom - (at + 1)) % 2) high ∙ above m more

and_one : (one test other : Bool) → test ≡ true → (one || not other) ≡ (one || (test && not other))
and_one one true other e = refl
and_one one false other e = cc

pub or_none : (one test other : Bool) → test ≡ false → one ≡ (one || (test && not other))
or_none true test other e = refl
or_none false false other e = refl
or_none false true other e = cc

module _ (set more but joined after at next : ℕ) (has : has_atom more at ≡ true)
    (before : (a : ℕ) → a < at → has_atom joined a ≡ (has_atom set a || (has_atom more a && not (has_atom but a))))
    (rest : (a : ℕ) → at ≤ a → has_atom joined a ≡ has_atom set a)
    (here : has_atom after at ≡ (has_atom joined at || not (has_atom but at)))
    (others : (a : ℕ) → a ≢ at → has_atom after a ≡ has_atom joined a)
    (none : (a : ℕ) → at + 1 ≤ a → a < next → has_atom more a ≡ false) where
  pub joined_more : (a : ℕ) → a < next → has_atom after a ≡ (has_atom set a || (has_atom more a && not (has_atom but a)))
  joined_more a less = go (cases_lt a at) (cases_eq a at) where
    go : (a < at) ⊎ (at ≤ a) → (a ≡ at) ⊎ (a ≢ at) → has_atom after a ≡ (has_atom set a || (has_atom more a && not (has_atom but a)))
    go (inl early) same = others a (λ e. absurd (omega (arith, early, e))) ∙ before a early
    go (inr from) (inl e) =
        ap (has_atom after) e ∙ here ∙ ap (λ test. test || not (has_atom but at)) (rest at (omega arith))
        ∙ and_one (has_atom set at) (has_atom more at) (has_atom but at) has
        ∙ sym (ap (λ k. has_atom set k || (has_atom more k && not (has_atom but k))) e)
    go (inr from) (inr apart) =
        others a apart ∙ rest a from ∙ or_none (has_atom set a) (has_atom more a) (has_atom but a) (none a (omega (arith, from, apart)) less)

  pub rest_more : at + 1 ≤ next → (a : ℕ) → next ≤ a → has_atom after a ≡ has_atom set a
  rest_more le a from = others a (λ e. absurd (omega (arith, le, from, e))) ∙ rest a (omega (arith, le, from))

-- ---- a set within another, as far as a place

pub within_none : (set other next : ℕ) → ((a : ℕ) → a < next → has_atom set a ≡ false) → (a : ℕ) → a < next → has_atom set a ≡ true → has_atom other a ≡ true
within_none set other next none a less has = let wrong : false ≡ true = sym (none a less) ∙ has in absurd (let no : ⊥ = cc in no)

pub within_more : (set other at next : ℕ) → ((a : ℕ) → a < at → has_atom set a ≡ true → has_atom other a ≡ true) → has_atom other at ≡ true
    → ((a : ℕ) → at + 1 ≤ a → a < next → has_atom set a ≡ false) → (a : ℕ) → a < next → has_atom set a ≡ true → has_atom other a ≡ true
within_more set other at next within here none a less has = go (cases_lt a at) (cases_eq a at) where
  go : (a < at) ⊎ (at ≤ a) → (a ≡ at) ⊎ (a ≢ at) → has_atom other a ≡ true
  go (inl early) same = within a early has
  go (inr from) (inl e) = ap (has_atom other) e ∙ here
  go (inr from) (inr apart) = let wrong : false ≡ true = sym (none a (omega (arith, from, apart)) less) ∙ has in absurd (let no : ⊥ = cc in no)

pub or_not_true : (one other : Bool) → other ≡ true → one ≡ (one || not other)
or_not_true true other e = refl
or_not_true false true e = refl
or_not_true false false e = cc

pub or_not_false : (one other : Bool) → other ≡ false → true ≡ (one || not other)
or_not_false true other e = refl
or_not_false false false e = refl
or_not_false false true e = cc
