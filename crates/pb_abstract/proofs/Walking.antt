-- The laws of abstract graphs.
use Rattle.std.proofs.Common.{◌≡◌, ℕ, ◌<◌, ◌≤◌, IsTrue, [], length, refl, sym, ap, subst, ◌∙◌, arith, ◌⊎◌, inl, inr, true≢false}
use Rattle.std.proofs.lemmas.Bool.{cases_lt}
use Rattle.std.proofs.lemmas.List.{get_or_past}
use Rattle.pb_model.specs.Space.{Steps}
use Rattle.pb_task.specs.declared.parts.TaskParts.{TaskParts}
use Rattle.pb_task.specs.declared.parts.TaskParts.TheVariants.{Grid, Tiles, Strips}
use Rattle.pb_task.specs.Parts.{space_of, IsTask}
use Rattle.pb_task.specs.Tiles.{cell_count, board_of}
use Rattle.pb_task.proofs.Callers.{tasks_are_proper, listed, board_in}
use Rattle.pb_abstract.specs.declared.projection.Projection.{Projection}
use Rattle.pb_abstract.specs.declared.projection.Projection.TheVariants.{Squares, Blank, BlankAndOne, BlankAndTwo, Atoms}
use Rattle.pb_abstract.specs.Projection.{Fits, block_count, block_of, IsEdge}
use Rattle.pb_abstract.specs.Graph.{AbstractGraph, has, blocks_of, AreKnown, IsGraphOf, home_of}
use Rattle.pb_abstract.specs.Laws.{EdgesAreSteps, AbstractGraphsAreBlocks}
use Rattle.pb_abstract.proofs.BoardCells.{is_placing_of}
use Rattle.pb_abstract.proofs.Ranks.{IsOfBoards, four_cells, number_small}
use Rattle.pb_abstract.proofs.TrackedSets.{set_small}
use Rattle.pb_abstract.proofs.GridSteps as grids
use Rattle.pb_abstract.proofs.TileSteps as tiles_steps
use Rattle.pb_abstract.proofs.TrackedSteps as sets

-- ---- edges and steps

abbrev pub Step : TaskParts → Projection → (block other : ℕ) → Type 0
Step parts projection block other =
    (from : ℕ) × (action : ℕ) × (to : ℕ) × (cost : ℕ) × Steps (space_of parts) from action to cost × (block_of parts projection from ≡ block) × (block_of parts projection to ≡ other)

-- a step is an edge
pub step_edge : (parts : TaskParts) → IsTask parts → (projection : Projection) → Fits parts projection → (from action to cost : ℕ) → Steps (space_of parts) from action to cost
    → IsEdge parts projection (block_of parts projection from) (block_of parts projection to)
step_edge (Grid grid) is (Squares side columns) fits from action to cost e = grids.step_edge grid is side from action to cost e
step_edge (Grid grid) is Blank fits from action to cost e = absurd fits
step_edge (Grid grid) is BlankAndOne fits from action to cost e = absurd fits
step_edge (Grid grid) is BlankAndTwo fits from action to cost e = absurd fits
step_edge (Grid grid) is (Atoms atoms) fits from action to cost e = absurd fits
step_edge (Tiles tiles) is projection fits from action to cost e = tiles_steps.step_edge tiles is projection from action to cost e
step_edge (Strips strips) is (Squares side columns) fits from action to cost e = absurd fits
step_edge (Strips strips) is Blank fits from action to cost e = absurd fits
step_edge (Strips strips) is BlankAndOne fits from action to cost e = absurd fits
step_edge (Strips strips) is BlankAndTwo fits from action to cost e = absurd fits
step_edge (Strips strips) is (Atoms atoms) fits from action to cost e = sets.step_edge strips atoms fits from action to cost e

pub edge_step : (parts : TaskParts) → IsTask parts → (projection : Projection) → Fits parts projection → (block other : ℕ) → IsEdge parts projection block other → Step parts projection block other
edge_step (Grid grid) is (Squares side columns) fits block other edge = grids.edge_step grid is side block other edge
edge_step (Grid grid) is Blank fits block other edge = absurd fits
edge_step (Grid grid) is BlankAndOne fits block other edge = absurd fits
edge_step (Grid grid) is BlankAndTwo fits block other edge = absurd fits
edge_step (Grid grid) is (Atoms atoms) fits block other edge = absurd fits
edge_step (Tiles tiles) is projection fits block other edge = tiles_steps.edge_step tiles is projection block other edge
edge_step (Strips strips) is (Squares side columns) fits block other edge = absurd fits
edge_step (Strips strips) is Blank fits block other edge = absurd fits
edge_step (Strips strips) is BlankAndOne fits block other edge = absurd fits
edge_step (Strips strips) is BlankAndTwo fits block other edge = absurd fits
edge_step (Strips strips) is (Atoms atoms) fits block other edge = sets.edge_step strips atoms fits block other edge

pub edges_are_steps : EdgesAreSteps
edges_are_steps parts is projection fits block other = (edge_step parts is projection fits block other, back) where
  at : (from action to cost : ℕ) → Steps (space_of parts) from action to cost → block_of parts projection from ≡ block → block_of parts projection to ≡ other → IsEdge parts projection block other
  at from action to cost step e f =
      subst (λ n. IsEdge parts projection n other) e (subst (λ n. IsEdge parts projection (block_of parts projection from) n) f (step_edge parts is projection fits from action to cost step))

  back : Step parts projection block other → IsEdge parts projection block other
  back (from, action, to, cost, step, e, f) = at from action to cost step e f

-- ---- blocks

-- the block of a state is one that there is
pub block_small : (parts : TaskParts) → IsTask parts → (projection : Projection) → Fits parts projection → (state : ℕ) → IsTrue ((space_of parts).is_state state)
    → block_of parts projection state < block_count parts projection
block_small (Grid grid) is (Squares side columns) fits state e = grids.square_small grid side state (omega (arith, fits.0)) e
block_small (Grid grid) is Blank fits state e = absurd fits
block_small (Grid grid) is BlankAndOne fits state e = absurd fits
block_small (Grid grid) is BlankAndTwo fits state e = absurd fits
block_small (Grid grid) is (Atoms atoms) fits state e = absurd fits
block_small (Tiles tiles) is projection fits state e =
    let count = cell_count tiles in
    let many : 4 ≤ count = four_cells tiles is in
    number_small count projection _ (is_placing_of count (board_of count state) (listed count (board_of count state) (board_in count state e)) (omega (arith, many))) (boards projection fits)
  where
    boards : (projection : Projection) → Fits (Tiles tiles) projection → IsOfBoards projection
    boards (Squares side columns) fits = absurd fits
    boards Blank fits = tt
    boards BlankAndOne fits = tt
    boards BlankAndTwo fits = tt
    boards (Atoms atoms) fits = absurd fits
block_small (Strips strips) is (Squares side columns) fits state e = absurd fits
block_small (Strips strips) is Blank fits state e = absurd fits
block_small (Strips strips) is BlankAndOne fits state e = absurd fits
block_small (Strips strips) is BlankAndTwo fits state e = absurd fits
block_small (Strips strips) is (Atoms atoms) fits state e = set_small atoms state

-- an edge leads to a block that there is
pub edge_small : (parts : TaskParts) → IsTask parts → (projection : Projection) → Fits parts projection → (block other : ℕ) → IsEdge parts projection block other → other < block_count parts projection
edge_small parts is projection fits block other edge = at (edge_step parts is projection fits block other edge) where
  at : Step parts projection block other → other < block_count parts projection
  at (from, action, to, cost, step, e, f) =
      subst (λ n. n < block_count parts projection) f (block_small parts is projection fits to ((tasks_are_proper parts is).0.to_state from action to cost step))

-- the scopes of a task's graph are of blocks that there are
pub scopes_known : (parts : TaskParts) → IsTask parts → (graph : AbstractGraph) → IsGraphOf parts graph → AreKnown graph.scopes
scopes_known parts is graph of block other e = go (cases_lt block (length graph.scopes)) where
  within : block < length graph.scopes → (block ≡ other) ⊎ IsEdge parts graph.projection block other → other < length graph.scopes
  within less (inl same) = subst (λ n. n < length graph.scopes) same less
  within less (inr edge) = subst (λ n. other < n) (sym of.count) (edge_small parts is graph.projection of.fits block other edge)

  go : ((block < length graph.scopes) ⊎ (length graph.scopes ≤ block)) → other < length graph.scopes
  go (inl less) = within less ((of.scope block other (subst (λ n. block < n) of.count less)).0 e)
  go (inr past) = absurd (true≢false (sym e ∙ ap (λ xs. has xs other) (get_or_past graph.scopes block [] past)))

pub own_scope : (parts : TaskParts) (graph : AbstractGraph) → IsGraphOf parts graph → (block : ℕ) → block < length graph.scopes → IsTrue ((blocks_of graph).scope block block)
own_scope parts graph of block less = (of.scope block block (subst (λ n. block < n) of.count less)).1 (inl refl)

pub abstract_graphs_are_blocks : AbstractGraphsAreBlocks
abstract_graphs_are_blocks parts is graph of guide homes = record {
  home = λ state e. subst (λ n. n < length graph.scopes) (sym (homes state)) (subst (λ n. home_of parts graph state < n) (sym of.count) (block_small parts is graph.projection of.fits state e));
  own = own_scope parts graph of;
  known = scopes_known parts is graph of;
  steps = λ from action to cost step.
      let less : home_of parts graph from < block_count parts graph.projection = block_small parts is graph.projection of.fits from ((tasks_are_proper parts is).0.from_state from action to cost step) in
      let scope : IsTrue ((blocks_of graph).scope (home_of parts graph from) (home_of parts graph to)) =
      (of.scope (home_of parts graph from) (home_of parts graph to) less).1 (inr (step_edge parts is graph.projection of.fits from action to cost step)) in
      subst (λ n. IsTrue ((blocks_of graph).scope n (guide.home to))) (sym (homes from)) (subst (λ n. IsTrue ((blocks_of graph).scope (home_of parts graph from) n)) (sym (homes to)) scope);
}
