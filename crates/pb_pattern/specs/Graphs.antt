-- Projected tasks in small: what a table's costs are computed from. The images are numbered, and the
-- number of an image is the image itself.
use Rattle.std.specs.Prelude.{ℕ, suc, ◌^◌, ◌≤◌, false, List, [], map}
use Rattle.pb_model.specs.Space.{Space, IsProper}
use Rattle.pb_task.specs.declared.parts.GroundAction.{GroundAction}
use Rattle.pb_task.specs.declared.grounding.Grounding.TheVariants as groundings
use Rattle.pb_task.specs.declared.parts.StripsParts.{StripsParts}
use Rattle.pb_task.specs.declared.parts.TilesParts.{TilesParts}
use Rattle.pb_task.specs.Strips.{strips_space, IsStrips}
use Rattle.pb_pattern.specs.declared.sets.Rule.{Rule}
use Rattle.pb_pattern.specs.declared.sets.Sets.{Sets}
use Rattle.pb_pattern.specs.declared.pieces.Pieces.{Pieces}
use Rattle.pb_pattern.specs.declared.graph.Graph.{Graph}
use Rattle.pb_pattern.specs.declared.graph.Graph.TheVariants as graphs
use Rattle.pb_pattern.specs.Projected.{image_of_set, pieces_space, placing_of}

-- ---- STRIPS

-- a rule as a ground action
abbrev pub action_of : Rule → GroundAction
action_of rule = record {
  name = [];
  needs = rule.needs;
  adds = rule.adds;
  deletes = rule.deletes;
  cost = rule.cost;
}

-- a ground action as far as it concerns the tracked atoms
abbrev pub rule_of : (tracked : List ℕ) → GroundAction → Rule
rule_of tracked action = record {
  needs = image_of_set tracked action.needs;
  adds = image_of_set tracked action.adds;
  deletes = image_of_set tracked action.deletes;
  cost = action.cost;
}

-- the rules as a task
abbrev pub parts_of : Sets → StripsParts
parts_of sets = record {
  atoms = sets.atoms;
  actions = map action_of sets.rules.items;
  start = sets.start;
  goal = sets.goal;
  never = false;
  grounding = groundings.All;
}

abbrev pub sets_space : Sets → Space
sets_space sets = strips_space (parts_of sets)

-- they make up a task of at most 12 atoms
pub record IsSets (sets : Sets) : Type 0 where
  pub parts : IsStrips (parts_of sets)
  pub atoms : sets.atoms ≤ 12

-- ---- tiles

abbrev pub board_space : Pieces → Space
board_space pieces =
    pieces_space pieces.rows pieces.cols pieces.count pieces.start pieces.goal

-- the blank and the first tiles of a task
abbrev pub pieces_of : TilesParts → (tracked : ℕ) → Pieces
pieces_of tiles tracked = record {
  rows = tiles.rows;
  cols = tiles.cols;
  count = suc tracked;
  start = placing_of tracked tiles.start;
  goal = placing_of tracked tiles.goal;
}

-- a board of 2 to 4 rows and columns, and 1 to 4 pieces
pub record IsPieces (pieces : Pieces) : Type 0 where
  pub rows : (2 ≤ pieces.rows) × (pieces.rows ≤ 4)
  pub cols : (2 ≤ pieces.cols) × (pieces.cols ≤ 4)
  pub count : (1 ≤ pieces.count) × (pieces.count ≤ 4)
  pub proper : IsProper (board_space pieces) (2 ^ 20)

-- ---- either

abbrev pub space_in : Graph → Space
space_in (graphs.Sets sets) = sets_space sets
space_in (graphs.Pieces pieces) = board_space pieces

-- how many images there are
abbrev pub images_in : Graph → ℕ
images_in (graphs.Sets sets) = 2 ^ sets.atoms
images_in (graphs.Pieces pieces) = 16 ^ pieces.count

abbrev pub IsGraph : Graph → Type 0
IsGraph (graphs.Sets sets) = IsSets sets
IsGraph (graphs.Pieces pieces) = IsPieces pieces
