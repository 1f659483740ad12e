-- Ground actions whose sets lie in flat arrays.
use Rattle.std.specs.Prelude.{ℕ, suc, List, [], ◌∷◌, slice_index}
use Rattle.pb_task.specs.declared.actions.Label.{Label}
use Rattle.pb_task.specs.declared.parts.GroundAction.{GroundAction}

-- the action with this label and the sets at this place
abbrev pub action_with : (at : ℕ) → Label → (needs adds deletes : List ℕ) → GroundAction
action_with at label needs adds deletes = record {
  name = label.name;
  needs = slice_index needs at;
  adds = slice_index adds at;
  deletes = slice_index deletes at;
  cost = label.cost;
}

-- the actions with these labels and the sets from this place on
abbrev pub actions_from : (at : ℕ) → List Label → (needs adds deletes : List ℕ) → List GroundAction
actions_from at [] needs adds deletes = []
actions_from at (label ∷ labels) needs adds deletes =
    action_with at label needs adds deletes ∷ actions_from (suc at) labels needs adds deletes
