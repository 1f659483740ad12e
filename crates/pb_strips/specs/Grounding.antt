-- A domain and a problem as a STRIPS task over numbered ground atoms.
use Rattle.std.specs.Prelude.{ℕ, nat_eq, List, [], length, map}
use Rattle.std.specs.List.{list_any}
use Rattle.pb_pddl.specs.declared.tree.Domain.{Domain}
use Rattle.pb_pddl.specs.declared.tree.Problem.{Problem}
use Rattle.pb_lifted.specs.Lifted.{lifted_of}
use Rattle.pb_lifted.specs.Typing.{named}
use Rattle.pb_ground.specs.declared.actions.ActionInstance as instance
use Rattle.pb_ground.specs.declared.atoms.GroundAtom.{GroundAtom}
use Rattle.pb_ground.specs.Atoms.{ground_atoms, kept_atoms}
use Rattle.pb_ground.specs.Actions.{numbers_of, kept_actions, kept_never}
use Rattle.pb_ground.specs.Statics.{keep_all}
use Rattle.pb_ground.specs.Steps.{Facts}
use Rattle.pb_reach.specs.Rounds.{is_reached}
use Rattle.pb_task.specs.declared.grounding.Grounding.{Grounding}
use Rattle.pb_task.specs.declared.grounding.Grounding.TheVariants.{All, Reachable}
use Rattle.pb_task.specs.declared.parts.GroundAction.{GroundAction}
use Rattle.pb_task.specs.declared.parts.StripsParts.{StripsParts}
use Rattle.pb_task.specs.Strips.{set_of}
use Rattle.pb_strips.specs.Names.{action_text}

-- the set of these of the first `count` atoms
abbrev pub numbered_set : (count : ℕ) → (numbers : List ℕ) → ℕ
numbered_set count numbers = set_of count (λ atom. list_any (nat_eq atom) numbers)

-- ---- the task

-- a ground action with its name, its sets and its cost
abbrev pub packed_action : Domain → Problem → (count : ℕ) → instance.ActionInstance → GroundAction
packed_action domain problem count action = record {
  name = action_text domain (action.schema, named domain problem action.objects);
  needs = numbered_set count action.needs;
  adds = numbered_set count action.adds;
  deletes = numbered_set count action.deletes;
  cost = action.cost;
}

-- The task over these ground atoms, which are those of this grounding. Its actions are the instances
-- whose preconditions are kept. There is no goal state if an atom of the goal isn't kept.
abbrev pub strips_by : Domain → Problem → Grounding → (kept : Facts) → (atoms : List GroundAtom)
    → StripsParts
strips_by domain problem grounding kept atoms =
    let lifted = lifted_of domain problem in
    record {
      atoms = length atoms;
      actions = map (packed_action domain problem (length atoms)) (kept_actions lifted kept atoms);
      start = numbered_set (length atoms) (numbers_of atoms [] lifted.init);
      goal = numbered_set (length atoms) (numbers_of atoms [] lifted.goal);
      never = kept_never lifted kept;
      grounding = grounding;
    }

-- the task in which the kept ground atoms have numbers, and no others
abbrev pub kept_strips : Domain → Problem → Grounding → (kept : Facts) → StripsParts
kept_strips domain problem grounding kept =
    strips_by domain problem grounding kept (kept_atoms (lifted_of domain problem) kept)

-- the task in which what is reached has numbers, and nothing else
abbrev pub reached_strips : Domain → Problem → StripsParts
reached_strips domain problem =
    kept_strips domain problem Reachable (is_reached (lifted_of domain problem))

-- the task in which all ground atoms have numbers
abbrev pub strips_of : Domain → Problem → StripsParts
strips_of domain problem =
    strips_by domain problem All (keep_all (lifted_of domain problem)) (ground_atoms (lifted_of
    domain problem))

-- the task of this grounding
abbrev pub strips_with : Grounding → Domain → Problem → StripsParts
strips_with All domain problem = strips_of domain problem
strips_with Reachable domain problem = reached_strips domain problem
