-- The image of a step is the step of the image, and what is listed leads to what is listed where there is no fault.
use Rattle.std.proofs.Common.{◌≡◌, ℕ, ◌<◌, Bool, true, false, not, ◌&&◌, ◌||◌, ◌==◌, List, [], length, Option, None, Some, is_some, slice_index, refl, sym, subst, ap, ◌∙◌, arith}
use Rattle.std.proofs.lemmas.Bool.{false≢true, and_parts, and_from, eqb-true}
use Rattle.std.proofs.lemmas.Option.{slice_get_within, get_or_from_slice_get}
use Rattle.pb_task.specs.declared.parts.StripsParts.{StripsParts}
use Rattle.pb_task.specs.Strips.{has_atom, is_within, holds_after, state_after, is_strips_goal, action_at, Acts}
use Rattle.pb_task.proofs.Callers.{from_within, to_within, sets_are_of_atoms}
use Rattle.pb_tables.specs.Below.{some_if}
use Rattle.pb_tables.specs.Images.{both, may_act, image_after, has_goal, place_in, leads_out, is_open}
use Rattle.pb_tables.proofs.AtomSets.{same_sets, both_has}
use Rattle.pb_tables.proofs.Searches.{Found, first_some, if_some, any_none}

-- of one atom: a step of a state, and the same step of its image, differ in no tracked atom
at_one : (added before deleted tracked : Bool) → ((added || (before && not deleted)) && tracked) ≡ ((added || ((before && tracked) && not deleted)) && tracked)
at_one true before deleted true = refl
at_one true before deleted false = refl
at_one false true true true = refl
at_one false true true false = refl
at_one false true false true = refl
at_one false true false false = refl
at_one false false deleted true = refl
at_one false false deleted false = refl

pub image_of_step : (strips : StripsParts) (tracked from action to cost : ℕ) (a : Acts strips from action to cost)
    → both strips.atoms to tracked ≡ image_after strips.atoms tracked a.act (both strips.atoms from tracked)
image_of_step strips tracked from action to cost a =
    same_sets strips.atoms (λ atom. has_atom to atom && has_atom tracked atom) (λ atom. has_atom (state_after strips.atoms a.act (both strips.atoms from tracked)) atom && has_atom tracked atom) (λ atom less.
    let left : has_atom to atom ≡ (has_atom a.act.adds atom || (has_atom from atom && not (has_atom a.act.deletes atom))) = a.result atom less in
    let image : has_atom (both strips.atoms from tracked) atom ≡ (has_atom from atom && has_atom tracked atom) = both_has strips.atoms from tracked atom less in
    let right : has_atom (state_after strips.atoms a.act (both strips.atoms from tracked)) atom ≡ holds_after a.act (both strips.atoms from tracked) atom =
    (sets_are_of_atoms.0 strips.atoms (holds_after a.act (both strips.atoms from tracked))).1 atom less in
    ap (λ b. b && has_atom tracked atom) left ∙ at_one (has_atom a.act.adds atom) (has_atom from atom) (has_atom a.act.deletes atom) (has_atom tracked atom)
    ∙ ap (λ b. (has_atom a.act.adds atom || (b && not (has_atom a.act.deletes atom))) && has_atom tracked atom) (sym image) ∙ ap (λ b. b && has_atom tracked atom) (sym right))

-- what is needed of the tracked atoms is in the image, where it is in the state
needs_in_image : (count tracked needs from : ℕ) → ((atom : ℕ) → atom < count → has_atom needs atom ≡ true → has_atom from atom ≡ true)
    → is_within count (both count needs tracked) (both count from tracked) ≡ true
needs_in_image count tracked needs from each = to_within count (both count needs tracked) (both count from tracked) (λ atom less is.
    let parts : (has_atom needs atom ≡ true) × (has_atom tracked atom ≡ true) = and_parts (has_atom needs atom) (has_atom tracked atom) (sym (both_has count needs tracked atom less) ∙ is) in
    both_has count from tracked atom less ∙ and_from (has_atom from atom) (has_atom tracked atom) (each atom less parts.0) parts.1)

pub may_take : (strips : StripsParts) (tracked from action to cost : ℕ) (a : Acts strips from action to cost) → may_act strips.atoms tracked a.act (both strips.atoms from tracked) ≡ true
may_take strips tracked from action to cost a = needs_in_image strips.atoms tracked a.act.needs from a.needed

pub goal_in_image : (strips : StripsParts) (tracked state : ℕ) → is_strips_goal strips state ≡ true → has_goal strips tracked (both strips.atoms state tracked) ≡ true
goal_in_image strips tracked state reached =
    needs_in_image strips.atoms tracked strips.goal state (from_within strips.atoms strips.goal state (and_parts (not strips.never) (is_within strips.atoms strips.goal state) reached).1)

-- ---- places

pub record IsPlace (listed : List ℕ) (image place : ℕ) : Type 0 where
  pub inside : place < length listed
  pub there : slice_index listed place ≡ image

pub place_is : (listed : List ℕ) (image place : ℕ) → place_in listed image ≡ Some place → IsPlace listed image place
place_is listed image place e =
    let f : Found (length listed) (λ p. some_if (slice_index listed p == image) p) place = first_some (length listed) (λ p. some_if (slice_index listed p == image) p) place e in
    let here : ((slice_index listed f.number == image) ≡ true) × (f.number ≡ place) = if_some (slice_index listed f.number == image) f.number place f.here in
    record {
      inside = omega (arith, f.inside, here.1);
      there = ap (slice_index listed) (sym here.1) ∙ eqb-true (slice_index listed f.number) image here.0;
    }

pub some_place : (place : Option ℕ) → is_some place ≡ true → (number : ℕ) × (place ≡ Some number)
some_place None e = absurd (false≢true e)
some_place (Some number) e = (number, refl)

-- ---- steps lead from what is listed to what is listed

action_is : (strips : StripsParts) (from action to cost : ℕ) (a : Acts strips from action to cost) → action_at strips.actions action ≡ a.act
action_is strips from action to cost a = get_or_from_slice_get strips.actions action a.act (record { name = []; needs = 0; adds = 0; deletes = 0; cost = 1 }) a.is

stays_by : (may listed : Bool) → (may && not listed) ≡ false → may ≡ true → listed ≡ true
stays_by true true e is = refl
stays_by true false e is = sym e
stays_by false listed e is = absurd (false≢true is)

pub stays_listed : (strips : StripsParts) (tracked : ℕ) (listed : List ℕ) (from action to cost : ℕ) (a : Acts strips from action to cost)
    → is_open strips tracked listed (both strips.atoms from tracked) ≡ false → is_some (place_in listed (both strips.atoms to tracked)) ≡ true
stays_listed strips tracked listed from action to cost a closed =
    let image = both strips.atoms from tracked in
    let out : leads_out strips.atoms tracked listed (action_at strips.actions action) image ≡ false =
    any_none (length strips.actions) (λ number. leads_out strips.atoms tracked listed (action_at strips.actions number) image) closed action (slice_get_within strips.actions action a.act a.is) in
    let own : leads_out strips.atoms tracked listed a.act image ≡ false = subst (λ act. leads_out strips.atoms tracked listed act image ≡ false) (action_is strips from action to cost a) out in
    subst (λ i. is_some (place_in listed i) ≡ true) (sym (image_of_step strips tracked from action to cost a))
    (stays_by (may_act strips.atoms tracked a.act image) (is_some (place_in listed (image_after strips.atoms tracked a.act image))) own (may_take strips tracked from action to cost a))
