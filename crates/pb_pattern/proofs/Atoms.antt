-- STRIPS over some of its atoms: each step has its image at the same cost.
use Rattle.std.proofs.Common.{◌≡◌, ℕ, zero, suc, ◌^◌, ◌<◌, ◌≤◌, Bool, true, false, not, ◌&&◌, ◌||◌, List, [], ◌∷◌, length, map, All, option_map, if◌then◌else◌, slice_index, sym, ap, ◌∙◌, arith}
use Rattle.std.proofs.lemmas.Bool.{and_parts, lt-ltb}
use Rattle.std.proofs.lemmas.Option.{slice_get-map}
use Rattle.std.proofs.lemmas.List.{length-map}
use Rattle.std.proofs.lemmas.List.Elements.{All-nil, All-cons, All-append, All-take, All-weaker, All-map, All-get_or}
use Rattle.pb_task.specs.declared.parts.GroundAction.{GroundAction}
use Rattle.pb_task.specs.declared.parts.StripsParts.{StripsParts}
use Rattle.pb_task.specs.Strips.{has_atom, is_within, is_strips_goal, strips_space, IsGroundAction, IsStrips, Acts}
use Rattle.pb_task.proofs.Callers.{sets_are_of_atoms, from_within, to_within, strips_act}
use Rattle.pb_pattern.specs.Projection.{IsProjection}
use Rattle.pb_pattern.specs.Projected.{atoms_by, goal_first, tracked_atoms, image_of_set, projected_action, projected_strips}
use Rattle.pb_pattern.specs.Laws.{StripsProject}

-- ---- the tracked atoms

atoms_are_below : (test : ℕ → Bool) (count : ℕ) → All (λ atom. atom < count) (atoms_by test count)
atoms_are_below test zero = All-nil (λ atom. atom < 0)
atoms_are_below test (suc atom) =
    All-append (λ a. a < suc atom) (atoms_by test atom) (if test atom then atom ∷ [] else [])
    (All-weaker (λ a. a < atom) (λ a. a < suc atom) (λ a less. omega (arith, less)) (atoms_by test atom) (atoms_are_below test atom))
    (one (test atom))
  where
    one : (passes : Bool) → All (λ a. a < suc atom) (if passes then atom ∷ [] else [])
    one true = All-cons (λ a. a < suc atom) atom [] (omega arith) (All-nil (λ a. a < suc atom))
    one false = All-nil (λ a. a < suc atom)

pub tracked_are_atoms : (strips : StripsParts) (pattern : ℕ) → All (λ atom. atom < strips.atoms) (tracked_atoms strips pattern)
tracked_are_atoms strips pattern =
    All-take (λ atom. atom < strips.atoms) pattern (goal_first strips)
    (All-append (λ atom. atom < strips.atoms) (atoms_by (has_atom strips.goal) strips.atoms) (atoms_by (λ atom. not (has_atom strips.goal atom)) strips.atoms)
    (atoms_are_below (has_atom strips.goal) strips.atoms) (atoms_are_below (λ atom. not (has_atom strips.goal atom)) strips.atoms))

-- ---- images

module _ (strips : StripsParts) (tracked : List ℕ) (is : IsStrips strips) (are : All (λ atom. atom < strips.atoms) tracked) (few : length tracked ≤ 12) where
  small : (set : ℕ) → image_of_set tracked set < 2 ^ length tracked
  small set = (sets_are_of_atoms.0 (length tracked) (λ place. has_atom set (slice_index tracked place))).0

  at : (set place : ℕ) → place < length tracked → has_atom (image_of_set tracked set) place ≡ has_atom set (slice_index tracked place)
  at set place less = (sets_are_of_atoms.0 (length tracked) (λ place. has_atom set (slice_index tracked place))).1 place less

  inside : (place : ℕ) → place < length tracked → slice_index tracked place < strips.atoms
  inside place less = All-get_or (λ atom. atom < strips.atoms) tracked place 0 less are

  is_action : (action : GroundAction) → IsGroundAction strips.atoms action → IsGroundAction (length tracked) (projected_action tracked action)
  is_action action g = record { needs = small action.needs; adds = small action.adds; deletes = small action.deletes; cost = g.cost }

  is_projected : IsStrips (projected_strips strips tracked)
  is_projected = record {
    atoms = (let le : length tracked ≤ 12 = few in omega arith);
    few = (let le : length strips.actions ≤ 65536 = is.few in let e : length (map (projected_action tracked) strips.actions) ≡ length strips.actions = length-map strips.actions (projected_action tracked) in omega arith);
    actions = All-map (IsGroundAction (length tracked)) (projected_action tracked) strips.actions (All-weaker (IsGroundAction strips.atoms) (λ a. IsGroundAction (length tracked) (projected_action tracked a)) is_action strips.actions is.actions);
    start = small strips.start;
    goal = small strips.goal;
  }

  acts : (from action to cost : ℕ) → Acts strips from action to cost → Acts (projected_strips strips tracked) (image_of_set tracked from) action (image_of_set tracked to) cost
  acts from action to cost a = record {
    act = projected_action tracked a.act;
    is = slice_get-map (projected_action tracked) strips.actions action ∙ ap (option_map (projected_action tracked)) a.is;
    from_set = small from;
    needed = λ place less has. at from place less ∙ a.needed (slice_index tracked place) (inside place less) (sym (at a.act.needs place less) ∙ has);
    to_set = small to;
    result = λ place less.
        at to place less
        ∙ a.result (slice_index tracked place) (inside place less)
        ∙ ap (λ b. b || (has_atom from (slice_index tracked place) && not (has_atom a.act.deletes (slice_index tracked place)))) (sym (at a.act.adds place less))
        ∙ ap (λ b. has_atom (image_of_set tracked a.act.adds) place || (b && not (has_atom a.act.deletes (slice_index tracked place)))) (sym (at from place less))
        ∙ ap (λ b. has_atom (image_of_set tracked a.act.adds) place || (has_atom (image_of_set tracked from) place && not b)) (sym (at a.act.deletes place less));
    price = a.price;
  }

  goal : (state : ℕ) → is_strips_goal strips state ≡ true → is_strips_goal (projected_strips strips tracked) (image_of_set tracked state) ≡ true
  goal state e =
      let parts = and_parts (not strips.never) (is_within strips.atoms strips.goal state) e in
      to_within (length tracked) (image_of_set tracked strips.goal) (image_of_set tracked state)
      (λ place less has. at state place less ∙ from_within strips.atoms strips.goal state parts.1 (slice_index tracked place) (inside place less) (sym (at strips.goal place less) ∙ has))

  pub is_projection : IsProjection (strips_space strips) (strips_space (projected_strips strips tracked)) (image_of_set tracked)
  is_projection = record {
    states = λ state is. lt-ltb (image_of_set tracked state) (2 ^ length tracked) (small state);
    steps = λ from action to cost step. (action, (strips_act (projected_strips strips tracked) (image_of_set tracked from) action (image_of_set tracked to) cost).1 (acts from action to cost ((strips_act strips from action to cost).0 step)));
    goals = λ state is reached. goal state reached;
  }

pub strips_project : StripsProject
strips_project strips tracked is are few = (is_projected strips tracked is are few, is_projection strips tracked is are few)
