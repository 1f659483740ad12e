-- No walk to a goal costs less than hmax: by one round more, an atom costs before a step at most what it costs after the step and the step's cost.
use Rattle.std.proofs.Common.{◌≡◌, ℕ, zero, suc, ◌+◌, ◌<◌, ◌≤◌, Bool, true, false, not, ◌&&◌, IsTrue, List, [], ◌∷◌, length, Contains, Option, None, Some, sym, subst, arith, ◌∙◌, ◌⊎◌, inl, inr}
use Rattle.std.proofs.lemmas.Bool.{and_parts, or_cases, not-true}
use Rattle.std.proofs.lemmas.Option.{slice_get_within, get_or_from_slice_get}
use Rattle.std.specs.List.{slice_get}
use Rattle.pb_model.specs.Guide.{IsLowerBound}
use Rattle.pb_model.specs.Plan.{Walk}
use Rattle.pb_task.specs.declared.parts.GroundAction.{GroundAction}
use Rattle.pb_task.specs.declared.parts.StripsParts.{StripsParts}
use Rattle.pb_task.proofs.Callers.{strips_act, from_within}
use Rattle.pb_task.specs.Strips.{has_atom, is_within, strips_space, Acts}
use Rattle.pb_estimate.specs.Hmax.{IsAtMost, cheapest_by, atom_cost, goal_cost, estimate_by, hmax}
use Rattle.pb_estimate.proofs.Costs.{lesser_left, lesser_right, lesser_cases, dearest_from, CostsByOne, cheapest_is, cheapest_from}
use Rattle.pb_estimate.proofs.Rounds.{no_cheaper}
use Rattle.pb_estimate.proofs.Fixed.{holds_from, holds_is}

-- ---- a step

among_actions : (actions : List GroundAction) (number : ℕ) (action : GroundAction) → slice_get actions number ≡ Some action → Contains actions action
among_actions actions number action e = (number, slice_get_within actions number action e, get_or_from_slice_get actions number action action e)

module _ (strips : StripsParts) (from action to price : ℕ) (acts : Acts strips from action to price) where
  -- an atom that holds after the step is added by its action, or held before
  first_round : (atom cost : ℕ) → atom < strips.atoms → has_atom to atom ≡ true → IsAtMost (atom_cost strips from 1 atom) (price + cost)
  first_round atom cost less has =
      go (or_cases (has_atom acts.act.adds atom) (has_atom from atom && not (has_atom acts.act.deletes atom)) (sym (acts.result atom less) ∙ has))
    where
      go : (has_atom acts.act.adds atom ≡ true) ⊎ ((has_atom from atom && not (has_atom acts.act.deletes atom)) ≡ true) → IsAtMost (atom_cost strips from 1 atom) (price + cost)
      go (inl adds) =
          lesser_right (atom_cost strips from 0 atom) (cheapest_by strips.atoms (atom_cost strips from 0) atom strips.actions) (price + cost)
          (cheapest_from strips.atoms (atom_cost strips from 0) atom strips.actions (price + cost) acts.act (among_actions strips.actions action acts.act acts.is) (record {
            adds = adds;
            needed = 0;
            needs = λ need need_less needs. holds_from (has_atom from need) 0 (acts.needed need need_less needs);
            sum = let same : price ≡ acts.act.cost = acts.price in omega arith;
          }))
      go (inr kept) =
          lesser_left (atom_cost strips from 0 atom) (cheapest_by strips.atoms (atom_cost strips from 0) atom strips.actions) (price + cost)
          (holds_from (has_atom from atom) (price + cost) (and_parts (has_atom from atom) (not (has_atom acts.act.deletes atom)) kept).0)

  one_round_more : (round atom cost : ℕ) → atom < strips.atoms → IsAtMost (atom_cost strips to round atom) cost → IsAtMost (atom_cost strips from (suc round) atom) (price + cost)
  one_round_more zero atom cost less h = first_round atom cost less (holds_is (has_atom to atom) cost h)
  one_round_more (suc round) atom cost less h =
      go (one_round_more round) (lesser_cases (atom_cost strips to round atom) (cheapest_by strips.atoms (atom_cost strips to round) atom strips.actions) cost h)
    where
      go : ((need c : ℕ) → need < strips.atoms → IsAtMost (atom_cost strips to round need) c → IsAtMost (atom_cost strips from (suc round) need) (price + c))
          → IsAtMost (atom_cost strips to round atom) cost ⊎ IsAtMost (cheapest_by strips.atoms (atom_cost strips to round) atom strips.actions) cost
          → IsAtMost (atom_cost strips from (suc (suc round)) atom) (price + cost)
      go rest (inl was) =
          lesser_left (atom_cost strips from (suc round) atom) (cheapest_by strips.atoms (atom_cost strips from (suc round)) atom strips.actions) (price + cost) (rest atom cost less was)
      go rest (inr by) =
          let one : CostsByOne strips.atoms (atom_cost strips to round) atom strips.actions cost = cheapest_is strips.atoms (atom_cost strips to round) atom strips.actions cost by in
          lesser_right (atom_cost strips from (suc round) atom) (cheapest_by strips.atoms (atom_cost strips from (suc round)) atom strips.actions) (price + cost)
          (cheapest_from strips.atoms (atom_cost strips from (suc round)) atom strips.actions (price + cost) one.action one.among (record {
            adds = one.by.adds;
            needed = price + one.by.needed;
            needs = λ need need_less has. rest need one.by.needed need_less (one.by.needs need need_less has);
            sum = let sum : one.action.cost + one.by.needed ≤ cost = one.by.sum in omega arith;
          }))

-- ---- a walk

-- after as many rounds as a walk has steps, what holds at its end costs no more than it
along_walk : (strips : StripsParts) (state : ℕ) (actions : List ℕ) (cost end : ℕ) → Walk (strips_space strips) state actions cost end
    → (atom : ℕ) → atom < strips.atoms → has_atom end atom ≡ true → IsAtMost (atom_cost strips state (length actions) atom) cost
along_walk strips state [] cost end walk atom less has = holds_from (has_atom state atom) cost (subst (λ s. has_atom s atom ≡ true) walk.1 has)
along_walk strips state (action ∷ actions) cost end (next, first, rest, step, walk, sum) atom less has =
    subst (λ c. IsAtMost (atom_cost strips state (length (action ∷ actions)) atom) c) (sym sum)
    (one_round_more strips state action next first ((strips_act strips state action next first).0 step) (length actions) atom rest less
    (along_walk strips next actions rest end walk atom less has))

lower_bound : (never : Bool) (goal : Option ℕ) (cost : ℕ) → never ≡ false → IsAtMost goal cost → IsLowerBound (estimate_by never goal) cost
lower_bound true goal cost e h = cc
lower_bound false None cost e h = h
lower_bound false (Some n) cost e h = h

pub no_walk_costs_less : (strips : StripsParts) (state : ℕ) (actions : List ℕ) (cost goal : ℕ) → Walk (strips_space strips) state actions cost goal
    → IsTrue ((strips_space strips).is_goal goal) → IsLowerBound (hmax strips state) cost
no_walk_costs_less strips state actions cost goal walk e =
    let parts = and_parts (not strips.never) (is_within strips.atoms strips.goal goal) e in
    lower_bound strips.never (goal_cost strips state) cost (not-true strips.never parts.0)
    (dearest_from (atom_cost strips state strips.atoms) strips.goal strips.atoms cost (λ atom less wanted.
    no_cheaper strips state (length actions) atom cost less
    (along_walk strips state actions cost goal walk atom less (from_within strips.atoms strips.goal goal parts.1 atom less wanted))))
