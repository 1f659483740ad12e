-- The laws of this crate. Each is proved, as the contract of the public function that has its name.
use Rattle.std.specs.Prelude.{◌≡◌, ℕ, ◌↔◌, Bool, List}
use Rattle.pb_model.specs.Space.{Steps}
use Rattle.pb_model.specs.Guide.{Guide}
use Rattle.pb_machine.specs.Blocks.{AreBlocks}
use Rattle.pb_task.specs.declared.parts.GridParts.{GridParts}
use Rattle.pb_task.specs.declared.parts.TaskParts.{TaskParts}
use Rattle.pb_task.specs.declared.parts.TaskParts.TheVariants.{Grid}
use Rattle.pb_task.specs.Parts.{space_of, IsTask}
use Rattle.pb_abstract.specs.declared.projection.Projection.{Projection}
use Rattle.pb_abstract.specs.Projection.{Fits, block_of, IsEdge, IsFinest}
use Rattle.pb_abstract.specs.Graph.{AbstractGraph, blocks_of, IsGraphOf, home_of}

-- The blocks of a task's graph are blocks of its states, whatever their estimates: each state's
-- home is one of them, and each step leads into the scope of the block that it begins in.
abbrev pub AbstractGraphsAreBlocks : Type 0
AbstractGraphsAreBlocks =
    (parts : TaskParts) → IsTask parts → (graph : AbstractGraph) → IsGraphOf parts graph
    → (guide : Guide) → ((state : ℕ) → guide.home state ≡ home_of parts graph state)
    → AreBlocks (space_of parts) guide (blocks_of graph)

-- An edge leads from one block to another exactly if some state of the one has a successor in the
-- other.
abbrev pub EdgesAreSteps : Type 0
EdgesAreSteps =
    (parts : TaskParts) → IsTask parts → (projection : Projection) → Fits parts projection
    → (block other : ℕ)
    → IsEdge parts projection block other
    ↔ ((from : ℕ) × (action : ℕ) × (to : ℕ) × (cost : ℕ)
    × Steps (space_of parts) from action to cost
    × (block_of parts projection from ≡ block) × (block_of parts projection to ≡ other))

-- A task has one graph at most for a wish: two graphs have the same projection, as many blocks, and
-- the same scopes.
abbrev pub GraphsAreUnique : Type 0
GraphsAreUnique =
    (parts : TaskParts) (wish : ℕ) (one other : AbstractGraph) → IsGraphOf parts one
    → IsGraphOf parts other → IsFinest parts wish one.projection
    → IsFinest parts wish other.projection
    → (one.projection ≡ other.projection) × ((blocks_of one).count ≡ (blocks_of other).count)
    × ((block c : ℕ) → (blocks_of one).scope block c ≡ (blocks_of other).scope block c)

-- No cost decides which blocks there are. The graph of a grid is also that of the same grid with
-- other marks of swamp, and it is as fine.
abbrev pub BlocksAskForNoCosts : Type 0
BlocksAskForNoCosts =
    (grid : GridParts) (marks : List Bool) (wish : ℕ) (graph : AbstractGraph)
    → IsGraphOf (Grid grid) graph → IsFinest (Grid grid) wish graph.projection
    → IsGraphOf (Grid (record grid { swamp = marks })) graph
    × IsFinest (Grid (record grid { swamp = marks })) wish graph.projection
