-- The first places that loops find, and what an action that touches no tracked atom does.
use Rattle.std.proofs.Common.{◌≡◌, ℕ, suc, ◌<◌, ◌≤◌, Bool, true, false, not, ◌&&◌, ◌||◌, List, length, Option, None, Some, is_some, slice_index, refl, sym, subst, ap, arith, ◌∙◌, inl, inr, lit<}
use Rattle.std.proofs.lemmas.Bool.{false≢true, cases_eq, and_right, or_from, or_left, or_right}
use Rattle.pb_task.specs.declared.parts.GroundAction.{GroundAction}
use Rattle.pb_task.specs.Strips.{has_atom, holds_after, state_after}
use Rattle.pb_task.proofs.Callers.{sets_are_of_atoms}
use Rattle.pb_tables.specs.Below.{first_below, some_if}
use Rattle.pb_tables.specs.Images.{both, may_act, image_after, place_in, leads_out}
use Rattle.pb_tables.specs.Order.{IsWritten}
use Rattle.pb_tables.specs.Looking.{IsFirst}
use Rattle.pb_tables.proofs.AtomSets.{same_sets, both_has}
use Rattle.pb_tables.proofs.Words.{not_above}
use Rattle.pb_tables.proofs.Searches.{found_first, none_first, is_if, none_if}
use Rattle.pb_tables.proofs.Halving.{found}

-- ---- the first place

pub none_there : (count : ℕ) (test : ℕ → Bool) → ((other : ℕ) → other < count → test other ≡ false) → IsFirst count test count
none_there count test before = record { within = omega arith; before = before; here = λ less. absurd (omega (arith, less)) }

pub one_there : (count : ℕ) (test : ℕ → Bool) (number : ℕ) → number < count → ((other : ℕ) → other < number → test other ≡ false) → test number ≡ true → IsFirst count test number
one_there count test number less before here = record { within = omega (arith, less); before = before; here = λ below. here }

pub either_first : (count : ℕ) (one other : ℕ → Bool) (limit number : ℕ) → IsFirst count one limit → IsFirst limit other number → IsFirst count (λ n. one n || other n) number
either_first count one other limit number first second = record {
  within = omega (arith, first.within, second.within);
  before = λ n less. or_from (one n) (other n) (first.before n (omega (arith, less, second.within))) (second.before n less);
  here = λ less. elim (cases_eq number limit) [
    | inl last ↦ or_left (one number) (other number) (subst (λ n. one n ≡ true) (sym last) (first.here (omega (arith, last, less))))
    | inr apart ↦ or_right (one number) (other number) (second.here (omega (arith, apart, second.within)))
  ];
}

pub line_found : (count : ℕ) (test : ℕ → Bool) (number : ℕ) → IsFirst count test number → number < count → first_below count (λ n. some_if (test n) (suc n)) ≡ Some (suc number)
line_found count test number first less =
    found_first count (λ n. some_if (test n) (suc n)) number (suc number) less
    (none_first number (λ n. some_if (test n) (suc n)) (λ n below. none_if (test n) (suc n) (first.before n below)))
    (is_if (test number) (suc number) (first.here less))

pub no_line : (count : ℕ) (test : ℕ → Bool) (number : ℕ) → IsFirst count test number → count ≤ number → first_below count (λ n. some_if (test n) (suc n)) ≡ None
no_line count test number first past =
    none_first count (λ n. some_if (test n) (suc n)) (λ n below. none_if (test n) (suc n) (first.before n (omega (arith, below, past))))

-- ---- an action that touches no tracked atom

unchanged : (added before deleted tracked : Bool) → (added && tracked) ≡ false → (deleted && tracked) ≡ false → ((added || (before && not deleted)) && tracked) ≡ (before && tracked)
unchanged added before deleted false e f = and_right (added || (before && not deleted)) false refl ∙ sym (and_right before false refl)
unchanged true before deleted true e f = absurd (false≢true (sym e))
unchanged false before true true e f = absurd (false≢true (sym f))
unchanged false true false true e f = refl
unchanged false false false true e f = refl

no_atom_of : (count one tracked atom : ℕ) → both count one tracked ≡ 0 → atom < count → (has_atom one atom && has_atom tracked atom) ≡ false
no_atom_of count one tracked atom none less = sym (both_has count one tracked atom less) ∙ ap (λ set. has_atom set atom) none ∙ not_above 0 0 atom (lit< tt) (omega arith)

pub untouched : (count tracked image : ℕ) (act : GroundAction) → both count act.adds tracked ≡ 0 → both count act.deletes tracked ≡ 0 → image_after count tracked act image ≡ both count image tracked
untouched count tracked image act adds deletes =
    same_sets count (λ atom. has_atom (state_after count act image) atom && has_atom tracked atom) (λ atom. has_atom image atom && has_atom tracked atom) (λ atom less.
    ap (λ b. b && has_atom tracked atom) ((sets_are_of_atoms.0 count (holds_after act image)).1 atom less)
    ∙ unchanged (has_atom act.adds atom) (has_atom image atom) (has_atom act.deletes atom) (has_atom tracked atom)
    (no_atom_of count act.adds tracked atom adds less) (no_atom_of count act.deletes tracked atom deletes less))

module _ (count tracked : ℕ) (listed : List ℕ) (act : GroundAction) (is : IsWritten count tracked listed) (adds : both count act.adds tracked ≡ 0) (deletes : both count act.deletes tracked ≡ 0) where
  pub stays_there : (place : ℕ) → place < length listed → place_in listed (image_after count tracked act (slice_index listed place)) ≡ Some place
  stays_there place less =
      let same : image_after count tracked act (slice_index listed place) ≡ slice_index listed place = untouched count tracked (slice_index listed place) act adds deletes ∙ is.tracked_alone place less in
      ap (place_in listed) same ∙ found listed (slice_index listed place) is.rising place less refl

  pub leads_nowhere : (place : ℕ) → place < length listed → leads_out count tracked listed act (slice_index listed place) ≡ false
  leads_nowhere place less =
      and_right (may_act count tracked act (slice_index listed place)) (not (is_some (place_in listed (image_after count tracked act (slice_index listed place)))))
      (ap (λ (o : Option ℕ). not (is_some o)) (stays_there place less))
