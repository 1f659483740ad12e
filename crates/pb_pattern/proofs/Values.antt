-- Pattern values are least costs, and so admissible.
use Rattle.std.proofs.Common.{◌≡◌, ℕ, suc, ◌^◌, ◌<◌, ◌≤◌, min, true, List, All, length, take, arith}
use Rattle.std.proofs.lemmas.Bool.{and_parts, ltb-true}
use Rattle.std.proofs.lemmas.List.{length-take}
use Rattle.pb_model.specs.Guide.{IsAdmissible}
use Rattle.pb_task.specs.declared.parts.TaskParts.{TaskParts}
use Rattle.pb_task.specs.declared.parts.TaskParts.TheVariants.{Grid, Tiles, Strips}
use Rattle.pb_task.specs.declared.parts.StripsParts.{StripsParts}
use Rattle.pb_task.specs.declared.parts.TilesParts.{TilesParts}
use Rattle.pb_task.specs.Tiles.{tiles_space, IsTiles}
use Rattle.pb_task.specs.Strips.{strips_space, IsStrips}
use Rattle.pb_task.specs.Parts.{space_of, IsTask, greatest_cost}
use Rattle.pb_task.proofs.Callers.{tasks_are_proper}
use Rattle.pb_pattern.specs.Least.{IsLeastCost, least_cost, HasStatesBelow}
use Rattle.pb_pattern.specs.Projection.{IsConsistent}
use Rattle.pb_pattern.proofs.Rounds.{rounds_give_least}
use Rattle.pb_pattern.proofs.Projections.{projections_are_admissible}
use Rattle.pb_pattern.specs.Projected.{tracked_tiles, placing_space, image_of_board, tracked_atoms, image_of_set, projected_strips, goal_first}
use Rattle.pb_pattern.specs.Patterns.{pattern_value}
use Rattle.pb_pattern.specs.Laws.{PatternValuesAreLeast, PatternsAreAdmissible}
use Rattle.pb_pattern.proofs.Atoms.{strips_project, tracked_are_atoms}
use Rattle.pb_pattern.proofs.Placings.{tiles_project}

placings_below : (tiles : TilesParts) (tracked : ℕ) → HasStatesBelow (placing_space tiles tracked) (16 ^ (suc tracked))
placings_below tiles tracked placing is = ltb-true placing (16 ^ (suc tracked)) (and_parts _ _ is).0

sets_below : (strips : StripsParts) (tracked : List ℕ) → HasStatesBelow (strips_space (projected_strips strips tracked)) (2 ^ length tracked)
sets_below strips tracked set is = ltb-true set (2 ^ length tracked) is

tiles_least : (tiles : TilesParts) (tracked placing : ℕ) → IsTiles tiles → tracked ≤ 3 → (placing_space tiles tracked).is_state placing ≡ true → IsLeastCost (placing_space tiles tracked) placing (least_cost (placing_space tiles tracked) (16 ^ (suc tracked)) placing)
tiles_least tiles tracked placing is few at = rounds_give_least (placing_space tiles tracked) 1 (16 ^ (suc tracked)) placing (tiles_project tiles tracked is few).0 (placings_below tiles tracked) at

strips_least : (strips : StripsParts) (tracked : List ℕ) (set : ℕ) → IsStrips strips → All (λ atom. atom < strips.atoms) tracked → length tracked ≤ 12 → (strips_space (projected_strips strips tracked)).is_state set ≡ true
    → IsLeastCost (strips_space (projected_strips strips tracked)) set (least_cost (strips_space (projected_strips strips tracked)) (2 ^ length tracked) set)
strips_least strips tracked set is are few at =
    rounds_give_least (strips_space (projected_strips strips tracked)) greatest_cost (2 ^ length tracked) set (tasks_are_proper (Strips (projected_strips strips tracked)) (strips_project strips tracked is are few).0).0 (sets_below strips tracked) at

pub pattern_values_are_least : PatternValuesAreLeast
pattern_values_are_least = (
  λ tiles tracked state is few at. tiles_least tiles tracked (image_of_board tiles tracked state) is few ((tiles_project tiles tracked is few).1.states state at),
  λ strips tracked state is are few at. strips_least strips tracked (image_of_set tracked state) is are few ((strips_project strips tracked is are few).1.states state at),
)

pub few_tiles : (tiles : TilesParts) (pattern : ℕ) → tracked_tiles tiles pattern ≤ 3
few_tiles tiles pattern = grind arith

pub few_atoms : (strips : StripsParts) (pattern : ℕ) → pattern ≤ 12 → length (tracked_atoms strips pattern) ≤ 12
few_atoms strips pattern few = let e : length (take pattern (goal_first strips)) ≡ min pattern (length (goal_first strips)) = length-take pattern (goal_first strips) in grind arith

-- the pattern values of each kind
values : (parts : TaskParts) (pattern : ℕ) → IsTask parts → pattern ≤ 12 → IsAdmissible (space_of parts) (pattern_value parts pattern) × IsConsistent (space_of parts) (pattern_value parts pattern)
values (Grid grid) pattern is few = (λ state actions cost goal at walk reached. omega arith, λ from action to cost step. omega arith)
values (Tiles tiles) pattern is few =
    let n = tracked_tiles tiles pattern in
    let p = tiles_project tiles n is (few_tiles tiles pattern) in
    projections_are_admissible (tiles_space tiles) (placing_space tiles n) greatest_cost (image_of_board tiles n) (least_cost (placing_space tiles n) (16 ^ (suc n))) (tasks_are_proper (Tiles tiles) is).0 p.1
    (λ placing at. tiles_least tiles n placing is (few_tiles tiles pattern) at)
values (Strips strips) pattern is few =
    let atoms = tracked_atoms strips pattern in
    let are = tracked_are_atoms strips pattern in
    let p = strips_project strips atoms is are (few_atoms strips pattern few) in
    projections_are_admissible (strips_space strips) (strips_space (projected_strips strips atoms)) greatest_cost (image_of_set atoms) (least_cost (strips_space (projected_strips strips atoms)) (2 ^ length atoms)) (tasks_are_proper (Strips strips) is).0 p.1
    (λ set at. strips_least strips atoms set is are (few_atoms strips pattern few) at)

pub patterns_are_admissible : PatternsAreAdmissible
patterns_are_admissible = values
