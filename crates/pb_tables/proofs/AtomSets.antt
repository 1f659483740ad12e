-- Sets that are computed have the atoms that the definitions say.
use Rattle.std.proofs.Common.{◌≡◌, ℕ, zero, suc, ◌*◌, ◌^◌, ◌<◌, ◌≤◌, Bool, true, false, not, IsTrue, ◌&&◌, ◌||◌, ◌↔◌, inl, inr, refl, sym, ap, arith, ◌∙◌, lit<}
use Rattle.std.proofs.Math.Nat.{pow-le-pow_right}
use Rattle.std.proofs.lemmas.Bool.{false≢true, cases_lt, and_right}
use Rattle.std.proofs.lemmas.Bool.Decides.{same_from_decides}
use Rattle.pb_packed.specs.Sizes.{state_bits, most_atoms}
use Rattle.pb_packed.specs.Bits.{bit_number}
use Rattle.pb_task.specs.declared.parts.GroundAction.{GroundAction}
use Rattle.pb_task.specs.Strips.{has_atom, set_of, is_within, holds_after, state_after}
use Rattle.pb_task.proofs.Callers.{from_within, to_within, same_atoms, sets_are_of_atoms}
use Rattle.pb_tables.specs.Images.{both, image_after}
use Rattle.pb_tables.proofs.Words.{not_above}

-- ---- sets with the same atoms

pub same_sets : (count : ℕ) (one other : ℕ → Bool) → ((atom : ℕ) → atom < count → one atom ≡ other atom) → set_of count one ≡ set_of count other
same_sets zero one other same = refl
same_sets (suc count) one other same =
    let before : set_of count one ≡ set_of count other = same_sets count one other (λ atom less. same atom (omega (arith, less))) in
    let here : bit_number (one count) * 2 ^ count ≡ bit_number (other count) * 2 ^ count = ap (λ b. bit_number b * 2 ^ count) (same count (omega arith)) in
    omega (arith, before, here)

-- a set that has exactly the atoms that a test accepts, which accepts none from `count` on
pub accepted_is : (accepts : ℕ → Bool) (set count : ℕ) → count ≤ most_atoms → set < 2 ^ state_bits → ((atom : ℕ) → has_atom set atom ≡ accepts atom)
    → ((atom : ℕ) → count ≤ atom → accepts atom ≡ false) → set ≡ set_of count accepts
accepted_is accepts set count few small has none =
    let made : set_of count accepts < 2 ^ count = (sets_are_of_atoms.0 count accepts).0 in
    let more : 2 ^ count ≤ 2 ^ state_bits = pow-le-pow_right {n = 2} (lit< tt) {i = count} {j = state_bits} few in
    same_atoms state_bits set (set_of count accepts) small (omega (arith, made, more))
    (λ atom less. has atom ∙ elim (cases_lt atom count) [
      | inl lower ↦ sym ((sets_are_of_atoms.0 count accepts).1 atom lower)
      | inr above ↦ none atom above ∙ sym (not_above (set_of count accepts) count atom made above)
    ])

-- ---- the tracked atoms of a set

pub both_has : (count one other atom : ℕ) → atom < count → has_atom (both count one other) atom ≡ (has_atom one atom && has_atom other atom)
both_has count one other atom less = (sets_are_of_atoms.0 count (λ a. has_atom one a && has_atom other a)).1 atom less

pub both_small : (count one other : ℕ) → both count one other < 2 ^ count
both_small count one other = (sets_are_of_atoms.0 count (λ a. has_atom one a && has_atom other a)).0

pub both_is : (count one other set : ℕ) → count ≤ most_atoms → other < 2 ^ count → set < 2 ^ state_bits
    → ((atom : ℕ) → has_atom set atom ≡ (has_atom one atom && has_atom other atom)) → set ≡ both count one other
both_is count one other set few small fits has =
    accepted_is (λ atom. has_atom one atom && has_atom other atom) set count few fits has
    (λ atom above. and_right (has_atom one atom) (has_atom other atom) (not_above other count atom small above))

-- ---- one set within another

pub within_is : (answer : Bool) (count small large : ℕ) → small < 2 ^ count
    → IsTrue answer ↔ ((atom : ℕ) → IsTrue (has_atom small atom) → IsTrue (has_atom large atom)) → answer ≡ is_within count small large
within_is answer count small large fits is = same_from_decides {P = (atom : ℕ) → IsTrue (has_atom small atom) → IsTrue (has_atom large atom)} answer (is_within count small large) is (
  λ e atom has. elim (cases_lt atom count) [
    | inl lower ↦ from_within count small large e atom lower has
    | inr above ↦ absurd (false≢true (sym (not_above small count atom fits above) ∙ has))
  ],
  λ all. to_within count small large (λ atom less. all atom),
)

-- ---- the image after an action

-- of one atom: sets that are cut to the tracked atoms change no others
cut : (added before deleted tracked : Bool) → (((added && tracked) || (before && not (deleted && tracked))) && tracked) ≡ ((added || (before && not deleted)) && tracked)
cut true before deleted true = refl
cut true before deleted false = and_right ((true && false) || (before && not (deleted && false))) false refl
cut false before true true = refl
cut false before false true = refl
cut false before deleted false = and_right ((false && false) || (before && not (deleted && false))) false refl ∙ sym (and_right (false || (before && not deleted)) false refl)

pub cut_has : (count one tracked atom : ℕ) → tracked < 2 ^ count → has_atom (both count one tracked) atom ≡ (has_atom one atom && has_atom tracked atom)
cut_has count one tracked atom small = elim (cases_lt atom count) [
  | inl lower ↦ both_has count one tracked atom lower
  | inr above ↦ not_above (both count one tracked) count atom (both_small count one tracked) above
      ∙ sym (and_right (has_atom one atom) (has_atom tracked atom) (not_above tracked count atom small above))
]

pub changed_is : (count tracked image set adds deletes : ℕ) (act : GroundAction) → count ≤ most_atoms → tracked < 2 ^ count → set < 2 ^ state_bits
    → adds ≡ both count act.adds tracked → deletes ≡ both count act.deletes tracked
    → ((atom : ℕ) → has_atom set atom ≡ ((has_atom adds atom || (has_atom image atom && not (has_atom deletes atom))) && has_atom tracked atom))
    → set ≡ image_after count tracked act image
changed_is count tracked image set adds deletes act few small fits added deleted has =
    accepted_is (λ atom. holds_after act image atom && has_atom tracked atom) set count few fits
    (λ atom. has atom
    ∙ ap (λ b. (b || (has_atom image atom && not (has_atom deletes atom))) && has_atom tracked atom) (ap (λ n. has_atom n atom) added ∙ cut_has count act.adds tracked atom small)
    ∙ ap (λ b. ((has_atom act.adds atom && has_atom tracked atom) || (has_atom image atom && not b)) && has_atom tracked atom) (ap (λ n. has_atom n atom) deleted ∙ cut_has count act.deletes tracked atom small)
    ∙ cut (has_atom act.adds atom) (has_atom image atom) (has_atom act.deletes atom) (has_atom tracked atom))
    (λ atom above. and_right (holds_after act image atom) (has_atom tracked atom) (not_above tracked count atom small above))
    ∙ same_sets count (λ atom. holds_after act image atom && has_atom tracked atom) (λ atom. has_atom (state_after count act image) atom && has_atom tracked atom)
    (λ atom less. ap (λ b. b && has_atom tracked atom) (sym ((sets_are_of_atoms.0 count (holds_after act image)).1 atom less)))
