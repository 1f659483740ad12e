-- What tables are computed from is the projected task.
use Rattle.std.proofs.Common.{◌≡◌, ℕ, suc, ◌*◌, ◌^◌, ◌<◌, ◌≤◌, false, List, [], ◌∷◌, length, map, All, IsTrue, refl, sym, ap, ◌∙◌, subst, arith, nat_lt}
use Rattle.std.proofs.lemmas.Bool.{and_parts, ltb-true}
use Rattle.std.proofs.lemmas.List.Elements.{All-weaker}
use Rattle.pb_packed.specs.Sizes.{most_atoms}
use Rattle.pb_packed.specs.Bits.{bits_of}
use Rattle.pb_model.specs.Space.{Space, IsProper}
use Rattle.pb_task.specs.declared.parts.GroundAction.{GroundAction}
use Rattle.pb_task.specs.declared.grounding.Grounding.TheVariants as groundings
use Rattle.pb_task.specs.declared.parts.StripsParts.{StripsParts}
use Rattle.pb_task.specs.declared.parts.TilesParts.{TilesParts}
use Rattle.pb_task.specs.Tiles.{board_of, board_state, cell_count, is_board, is_board_state, IsTiles, tiles_space}
use Rattle.pb_task.specs.Strips.{strips_space, IsStrips}
use Rattle.pb_task.proofs.Callers.{whole}
use Rattle.pb_pattern.specs.declared.sets.Sets.{Sets}
use Rattle.pb_pattern.specs.Projected.{cells_from, image_of_board, image_of_set, placing_space, projected_action, projected_strips, tracked_atoms, tracked_tiles}
use Rattle.pb_pattern.specs.Patterns.{strips_value, tiles_value}
use Rattle.pb_pattern.specs.Costs.{cost_in, estimate_in}
use Rattle.pb_pattern.specs.Graphs.{action_of, parts_of, pieces_of, rule_of, IsPieces, IsSets}
use Rattle.pb_pattern.specs.Tables.{AreOfStrips, AreOfTiles}
use Rattle.pb_pattern.proofs.Atoms.{strips_project, tracked_are_atoms}
use Rattle.pb_pattern.proofs.Placings.{tiles_project}
use Rattle.pb_pattern.proofs.Values.{few_atoms, few_tiles, pattern_values_are_least}
use Rattle.pb_pattern.proofs.Walks.{least_costs_are_unique}

-- ---- STRIPS

same_actions : (tracked : List ℕ) (actions : List GroundAction) → map action_of (map (rule_of tracked) actions) ≡ map (projected_action tracked) actions
same_actions tracked [] = refl
same_actions tracked (action ∷ actions) = ap (λ rest. projected_action tracked action ∷ rest) (same_actions tracked actions)

made : (atoms : ℕ) (actions : List GroundAction) (start goal : ℕ) → StripsParts
made atoms actions start goal = record { atoms = atoms; actions = actions; start = start; goal = goal; never = false; grounding = groundings.All }

pub parts_are : (strips : StripsParts) (tracked : List ℕ) (sets : Sets) → sets.atoms ≡ length tracked → sets.rules.items ≡ map (rule_of tracked) strips.actions → sets.start ≡ image_of_set tracked strips.start
    → sets.goal ≡ image_of_set tracked strips.goal → parts_of sets ≡ projected_strips strips tracked
unfolding made
parts_are strips tracked sets atoms rules start goal =
    ap (λ n. made n (map action_of sets.rules.items) sets.start sets.goal) atoms
    ∙ ap (λ actions. made (length tracked) actions sets.start sets.goal) (ap (map action_of) rules ∙ same_actions tracked strips.actions)
    ∙ ap (λ n. made (length tracked) (map (projected_action tracked) strips.actions) n sets.goal) start
    ∙ ap (made (length tracked) (map (projected_action tracked) strips.actions) (image_of_set tracked strips.start)) goal

pub are_sets : (strips : StripsParts) (tracked : List ℕ) (sets : Sets) → IsStrips strips → All (λ atom. atom < strips.atoms) tracked → length tracked ≤ 12 → parts_of sets ≡ projected_strips strips tracked → IsSets sets
are_sets strips tracked sets is are few e = record {
  parts = subst IsStrips (sym e) (strips_project strips tracked is are few).0;
  atoms = (let same : sets.atoms ≡ length tracked = ap (λ (p : StripsParts). p.atoms) e in omega (arith, same, few));
}

-- the tracked atoms have numbers of 8 bits
pub small_atoms : (strips : StripsParts) (tracked : List ℕ) → IsStrips strips → All (λ atom. atom < strips.atoms) tracked → All (λ atom. atom < most_atoms) tracked
small_atoms strips tracked is are = All-weaker (λ atom. atom < strips.atoms) (λ atom. atom < most_atoms) (λ atom less. let few : strips.atoms ≤ most_atoms = is.atoms in omega (arith, few, less)) tracked are

pub strips_table : (strips : StripsParts) (tracked costs : List ℕ) (state : ℕ) → IsStrips strips → All (λ atom. atom < strips.atoms) tracked → length tracked ≤ 12 → AreOfStrips strips tracked costs → IsTrue ((strips_space strips).is_state state)
    → estimate_in (cost_in costs (image_of_set tracked state)) ≡ strips_value strips tracked state
strips_table strips tracked costs state is are few table at =
    least_costs_are_unique (strips_space (projected_strips strips tracked)) (image_of_set tracked state) (estimate_in (cost_in costs (image_of_set tracked state))) (strips_value strips tracked state)
    (table.least (image_of_set tracked state) ((strips_project strips tracked is are few).1.states state at))
    (pattern_values_are_least.1 strips tracked state is are few at)

pub atoms_of_pattern : (strips : StripsParts) (pattern : ℕ) → pattern ≤ 12 → All (λ atom. atom < strips.atoms) (tracked_atoms strips pattern) × (length (tracked_atoms strips pattern) ≤ 12)
atoms_of_pattern strips pattern few = (tracked_are_atoms strips pattern, few_atoms strips pattern few)

-- ---- tiles

dearer : (space : Space) (least most : ℕ) → least ≤ most → IsProper space least → IsProper space most
dearer space least most more proper = record {
  start = proper.start;
  action = proper.action;
  from_state = proper.from_state;
  to_state = proper.to_state;
  positive = proper.positive;
  bounded = λ from action to cost step. let here : cost ≤ least = proper.bounded from action to cost step in omega (arith, here, more);
}

pub are_pieces : (tiles : TilesParts) (tracked : ℕ) → IsTiles tiles → tracked ≤ 3 → IsPieces (pieces_of tiles tracked)
are_pieces tiles tracked is few = record {
  rows = is.rows;
  cols = is.cols;
  count = (omega arith, omega (arith, few));
  proper = dearer (placing_space tiles tracked) 1 (2 ^ 20) (omega arith) (tiles_project tiles tracked is few).0;
}

pub image_is : (tiles : TilesParts) (tracked state count word pieces image : ℕ) → IsTiles tiles → IsTrue (is_board_state (cell_count tiles) state) → count ≡ cell_count tiles → word ≡ bits_of state 0 (4 * count) → pieces ≡ suc tracked
    → image ≡ board_state (cells_from (board_of count word) 0 pieces) → image ≡ image_of_board tiles tracked state
image_is tiles tracked state count word pieces image is at count_is word_is pieces_is placed =
    let less : state < 16 ^ cell_count tiles = ltb-true state (16 ^ cell_count tiles) (and_parts (nat_lt state (16 ^ cell_count tiles)) (is_board (cell_count tiles) (board_of (cell_count tiles) state)) at).0 in
    let word_whole : word ≡ state = word_is ∙ ap (λ n. bits_of state 0 (4 * n)) count_is ∙ whole (cell_count tiles) state less in
    placed
    ∙ ap (λ n. board_state (cells_from (board_of n word) 0 pieces)) count_is
    ∙ ap (λ n. board_state (cells_from (board_of (cell_count tiles) n) 0 pieces)) word_whole
    ∙ ap (λ n. board_state (cells_from (board_of (cell_count tiles) state) 0 n)) pieces_is

pub tiles_table : (tiles : TilesParts) (pattern state : ℕ) (costs : List ℕ) → IsTiles tiles → AreOfTiles tiles pattern costs → IsTrue ((tiles_space tiles).is_state state)
    → estimate_in (cost_in costs (image_of_board tiles (tracked_tiles tiles pattern) state)) ≡ tiles_value tiles (tracked_tiles tiles pattern) state
tiles_table tiles pattern state costs is table at =
    let tracked = tracked_tiles tiles pattern in
    let few = few_tiles tiles pattern in
    least_costs_are_unique (placing_space tiles tracked) (image_of_board tiles tracked state) (estimate_in (cost_in costs (image_of_board tiles tracked state))) (tiles_value tiles tracked state)
    (table.least (image_of_board tiles tracked state) ((tiles_project tiles tracked is few).1.states state at))
    (pattern_values_are_least.0 tiles tracked state is few at)

-- the image of a state is inside its table
pub inside_tiles : (tiles : TilesParts) (pattern state : ℕ) (costs : List ℕ) → IsTiles tiles → AreOfTiles tiles pattern costs → IsTrue ((tiles_space tiles).is_state state) → image_of_board tiles (tracked_tiles tiles pattern) state < length costs
inside_tiles tiles pattern state costs is table at =
    let tracked = tracked_tiles tiles pattern in
    let there = (tiles_project tiles tracked is (few_tiles tiles pattern)).1.states state at in
    let less : image_of_board tiles tracked state < 16 ^ (suc tracked) = ltb-true (image_of_board tiles tracked state) (16 ^ (suc tracked)) (and_parts _ _ there).0 in
    subst (λ n. image_of_board tiles (tracked_tiles tiles pattern) state < n) (sym table.long) less
