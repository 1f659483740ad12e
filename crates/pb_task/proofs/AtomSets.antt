-- Sets of atoms as numbers.
use Rattle.std.proofs.Common.{◌≡◌, ℕ, zero, suc, ◌+◌, ◌-◌, ◌*◌, ◌^◌, ◌<◌, ◌≤◌, Bool, true, false, not, IsTrue, ◌==◌, ◌&&◌, ◌||◌, inl, inr, refl, sym, subst, ap, arith, ◌∙◌, bit_and, bit_or, min, max, lit<, ◌↔◌}
use Rattle.std.proofs.Math.Nat.{pow-le-pow_right, pow-suc}
use Rattle.std.specs.Int.{Width, bit_at, bit_not}
use mir.Val.{bits}
use Rattle.std.proofs.lemmas.Bool.{cases_lt, false≢true, and_parts, and_from}
use Rattle.std.proofs.lemmas.Bool.Decides.{same_from_decides}
use Rattle.std.proofs.lemmas.Nat.{and_le_l, mul-add-lt}
use Rattle.std.proofs.lemmas.Nat.Bits.{bit_at_and, bit_at_or, bit_at_not, bit_at-lt, bit_at_above, bit_at_cat_low, bit_at_cat_high, same_from_bits_below}
use Rattle.pb_packed.specs.Bits.{bit_number}
use Rattle.pb_task.specs.Strips.{has_atom, set_of, is_within}
use Rattle.pb_task.specs.Laws.{SetsAreOfAtoms}

-- ---- an atom is in a set where its bit is 1

as_number : (bit : ℕ) → bit < 2 → bit ≡ bit_number (bit == 1)
as_number zero small = refl
as_number (suc zero) small = refl
as_number (suc (suc more)) small = absurd (omega arith)

pub bit_is : (set atom : ℕ) → bit_at set atom ≡ bit_number (has_atom set atom)
bit_is set atom = as_number (bit_at set atom) (bit_at-lt set atom)

number_tells : (one other : Bool) → bit_number one ≡ bit_number other → one ≡ other
number_tells true true e = refl
number_tells false false e = refl
number_tells true false e = absurd (omega arith)
number_tells false true e = absurd (omega arith)

pub not_above : (set count atom : ℕ) → set < 2 ^ count → count ≤ atom → has_atom set atom ≡ false
not_above set count atom small above = ap (λ bit. bit == 1) (bit_at_above set count atom small above)

-- a set above another, of which it takes `count` bits
pub placed_below : (high count low atom : ℕ) → atom < count → has_atom (high * 2 ^ count + low) atom ≡ has_atom low atom
placed_below high count low atom less = ap (λ bit. bit == 1) (bit_at_cat_low high count low atom less)

pub placed_above : (high count low atom : ℕ) → low < 2 ^ count → has_atom (high * 2 ^ count + low) (count + atom) ≡ has_atom high atom
placed_above high count low atom small =
    let place : count + atom - count ≡ atom = omega arith in
    ap (λ bit. bit == 1) (bit_at_cat_high high count low (count + atom) small (omega arith) ∙ ap (λ i. bit_at high i) place)

-- ---- a set that is made by a test, and sets that have the same atoms

has_first : (bit : Bool) → has_atom (bit_number bit) 0 ≡ bit
has_first true = refl
has_first false = refl

small_number : (bit : Bool) → bit_number bit < 2
small_number true = omega arith
small_number false = omega arith

record IsSetOf (count : ℕ) (accepts : ℕ → Bool) (set : ℕ) : Type 0 where
  pub small : set < 2 ^ count
  pub atoms : (atom : ℕ) → atom < count → has_atom set atom ≡ accepts atom

one_more : (count : ℕ) (accepts : ℕ → Bool) (set : ℕ) → IsSetOf count accepts set → IsSetOf (suc count) accepts (set + bit_number (accepts count) * 2 ^ count)
one_more count accepts set is =
    let turned : bit_number (accepts count) * 2 ^ count + set ≡ set + bit_number (accepts count) * 2 ^ count = omega arith in
    subst (IsSetOf (suc count) accepts) turned (record {
      small = subst (λ power. bit_number (accepts count) * 2 ^ count + set < power) (sym (pow-suc 2 count))
          (mul-add-lt (bit_number (accepts count)) (2 ^ count) set 2 (small_number (accepts count)) is.small);
      atoms = atoms;
    }) where
      atoms : (atom : ℕ) → atom < suc count → has_atom (bit_number (accepts count) * 2 ^ count + set) atom ≡ accepts atom
      atoms atom less = elim (cases_lt atom count) [
        | inl lower ↦ placed_below (bit_number (accepts count)) count set atom lower ∙ is.atoms atom lower
        | inr last ↦
            let same : count + 0 ≡ atom = omega (arith, last, less) in
            let here : count ≡ atom = omega (arith, last, less) in
            ap (λ a. has_atom (bit_number (accepts count) * 2 ^ count + set) a) (sym same) ∙ placed_above (bit_number (accepts count)) count set 0 is.small
            ∙ has_first (accepts count) ∙ ap accepts here
      ]

made : (count : ℕ) (accepts : ℕ → Bool) → IsSetOf count accepts (set_of count accepts)
made zero accepts = record { small = omega arith; atoms = λ atom less. absurd (omega arith) }
made (suc count) accepts = one_more count accepts (set_of count accepts) (made count accepts)

pub same_atoms : (count one other : ℕ) → one < 2 ^ count → other < 2 ^ count → ((atom : ℕ) → atom < count → has_atom one atom ≡ has_atom other atom) → one ≡ other
same_atoms count one other first second same =
    same_from_bits_below count one other first second (λ atom less. bit_is one atom ∙ ap bit_number (same atom less) ∙ sym (bit_is other atom))

pub sets_are_of_atoms : SetsAreOfAtoms
sets_are_of_atoms = (λ count accepts. ((made count accepts).small, (made count accepts).atoms), same_atoms)

-- ---- one set within another

abbrev pub Within : (count small large : ℕ) → Type 0
Within count small large = (atom : ℕ) → atom < count → IsTrue (has_atom small atom) → IsTrue (has_atom large atom)

tells : (small large : Bool) → (not small || large) ≡ true → small ≡ true → large ≡ true
tells true large e is = e
tells false large e is = absurd (false≢true is)

told : (small large : Bool) → (small ≡ true → large ≡ true) → (not small || large) ≡ true
told true large e = e refl
told false large e = refl

pub from_within : (count small large : ℕ) → is_within count small large ≡ true → Within count small large
from_within zero small large e atom less is = absurd (omega arith)
from_within (suc count) small large e atom less is =
    let both : (is_within count small large ≡ true) × ((not (has_atom small count) || has_atom large count) ≡ true) = and_parts (is_within count small large) _ e in
    elim (cases_lt atom count) [
      | inl lower ↦ from_within count small large both.0 atom lower is
      | inr last ↦
          let here : count ≡ atom = omega (arith, last, less) in
          subst (λ a. has_atom large a ≡ true) here (tells (has_atom small count) (has_atom large count) both.1 (subst (λ a. has_atom small a ≡ true) (sym here) is))
    ]

pub to_within : (count small large : ℕ) → Within count small large → is_within count small large ≡ true
to_within zero small large all = refl
to_within (suc count) small large all =
    and_from (is_within count small large) _ (to_within count small large (λ atom less. all atom (omega (arith, less))))
    (told (has_atom small count) (has_atom large count) (all count (omega arith)))

-- a test of whether all atoms of one set are in another is that of the atoms of the task
pub within_is : (answer : Bool) (count small large : ℕ) → small < 2 ^ count
    → IsTrue answer ↔ ((atom : ℕ) → IsTrue (has_atom small atom) → IsTrue (has_atom large atom)) → answer ≡ is_within count small large
within_is answer count small large fits is = same_from_decides {P = (atom : ℕ) → IsTrue (has_atom small atom) → IsTrue (has_atom large atom)} answer (is_within count small large) is (
  λ e atom has. elim (cases_lt atom count) [
    | inl lower ↦ from_within count small large e atom lower has
    | inr above ↦ absurd (false≢true (sym (not_above small count atom fits above) ∙ has))
  ],
  λ all. to_within count small large (λ atom less. all atom),
)

-- ---- common atoms, those of either set, and those of neither

least : (one other : Bool) → min (bit_number one) (bit_number other) ≡ bit_number (one && other)
least true true = refl
least true false = refl
least false true = refl
least false false = refl

greatest : (one other : Bool) → max (bit_number one) (bit_number other) ≡ bit_number (one || other)
greatest true true = refl
greatest true false = refl
greatest false true = refl
greatest false false = refl

turned : (one : Bool) → 1 - bit_number one ≡ bit_number (not one)
turned true = refl
turned false = refl

pub both_atoms : (one other atom : ℕ) → has_atom (bit_and one other) atom ≡ (has_atom one atom && has_atom other atom)
both_atoms one other atom = number_tells _ _
    (sym (bit_is (bit_and one other) atom) ∙ bit_at_and one other atom ∙ ap (λ b. min b (bit_at other atom)) (bit_is one atom)
    ∙ ap (λ b. min (bit_number (has_atom one atom)) b) (bit_is other atom) ∙ least (has_atom one atom) (has_atom other atom))

pub any_atom : (one other atom : ℕ) → has_atom (bit_or one other) atom ≡ (has_atom one atom || has_atom other atom)
any_atom one other atom = number_tells _ _
    (sym (bit_is (bit_or one other) atom) ∙ bit_at_or one other atom ∙ ap (λ b. max b (bit_at other atom)) (bit_is one atom)
    ∙ ap (λ b. max (bit_number (has_atom one atom)) b) (bit_is other atom) ∙ greatest (has_atom one atom) (has_atom other atom))

pub no_atom : (width : Width) (word atom : ℕ) → word < 2 ^ bits width → atom < bits width → has_atom (bit_not width word) atom ≡ not (has_atom word atom)
no_atom width word atom small less = number_tells _ _
    (sym (bit_is (bit_not width word) atom) ∙ bit_at_not width word atom small less ∙ ap (λ b. 1 - b) (bit_is word atom) ∙ turned (has_atom word atom))

-- a set is within another where their common atoms are its own
pub common_all : (small large : ℕ) → bit_and small large ≡ small → (atom : ℕ) → IsTrue (has_atom small atom) → IsTrue (has_atom large atom)
common_all small large same atom is =
    (and_parts (has_atom small atom) (has_atom large atom) (sym (both_atoms small large atom) ∙ ap (λ set. has_atom set atom) same ∙ is)).1

pub all_common : (count small large : ℕ) → small < 2 ^ count → Within count small large → bit_and small large ≡ small
all_common count small large fits all =
    same_atoms count (bit_and small large) small (omega (arith, and_le_l small large, fits)) fits
    (λ atom less. both_atoms small large atom ∙ absorbed (has_atom small atom) (has_atom large atom) (all atom less)) where
      absorbed : (one other : Bool) → (one ≡ true → other ≡ true) → (one && other) ≡ one
      absorbed true other more = more refl
      absorbed false other more = refl

-- ---- a set that has the atoms that a test accepts

pub more_than : (count most : ℕ) → count ≤ most → 2 ^ count ≤ 2 ^ most
more_than count most few = pow-le-pow_right {n = 2} (lit< tt) {i = count} {j = most} few

-- a set that has exactly the atoms that a test accepts, which accepts none from `count` on, is the
-- set of the first `count`
pub accepted_is : (accepts : ℕ → Bool) (set count most : ℕ) → count ≤ most → set < 2 ^ most → ((atom : ℕ) → has_atom set atom ≡ accepts atom)
    → ((atom : ℕ) → count ≤ atom → accepts atom ≡ false) → set ≡ set_of count accepts
accepted_is accepts set count most few small has none =
    let made_small : set_of count accepts < 2 ^ count = (made count accepts).small in
    let more : 2 ^ count ≤ 2 ^ most = more_than count most few in
    same_atoms most set (set_of count accepts) small (omega (arith, made_small, more))
    (λ atom less. has atom ∙ elim (cases_lt atom count) [
      | inl lower ↦ sym ((made count accepts).atoms atom lower)
      | inr above ↦ none atom above ∙ sym (not_above (set_of count accepts) count atom made_small above)
    ])
