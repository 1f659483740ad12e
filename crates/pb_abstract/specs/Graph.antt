-- The abstract graph of a task, as contracts see it: how states are mapped to blocks, and the scope
-- of each block (R. Zhou and E. A. Hansen, "Structured duplicate detection in external-memory graph
-- search", AAAI 2004). Several workers share a search by it (E. Burns, S. Lemons, W. Ruml and R.
-- Zhou, "Best-first heuristic search for multicore machines", Journal of Artificial Intelligence
-- Research 39, 2010).
use Rattle.std.specs.Prelude.{◌≡◌, ℕ, ◌<◌, ◌≤◌, Bool, IsTrue, ◌↔◌, ◌⊎◌, ◌==◌, List, [], length, slice_index_or}
use Rattle.std.specs.List.{list_any}
use Rattle.pb_machine.specs.Blocks.{Blocks, interferes}
use Rattle.pb_task.specs.declared.parts.TaskParts.{TaskParts}
use Rattle.pb_abstract.specs.declared.projection.Projection.{Projection}
use Rattle.pb_abstract.specs.Projection.{Fits, block_count, block_of, IsEdge}

-- a projection, and for each block, in order of their numbers, the blocks of its scope
pub record AbstractGraph : Type 0 where
  pub projection : Projection
  pub scopes : List (List ℕ)

-- whether the list has the number
abbrev pub has : List ℕ → (number : ℕ) → Bool
has numbers number = list_any (λ other. other == number) numbers

-- the blocks that have these scopes
abbrev pub blocks_in : (scopes : List (List ℕ)) → Blocks
blocks_in scopes =
    record {
      count = length scopes;
      scope = λ block other. has (slice_index_or scopes block [])
          other;
    }

-- the blocks of a graph
abbrev pub blocks_of : AbstractGraph → Blocks
blocks_of graph = blocks_in graph.scopes

-- scopes are of blocks of the graph
abbrev pub AreKnown : (scopes : List (List ℕ)) → Type 0
AreKnown scopes =
    (block other : ℕ) → IsTrue ((blocks_in scopes).scope block other) → other < length scopes

-- the blocks in whose scope a block is
abbrev pub AreSources : (scopes lists : List (List ℕ)) → Type 0
AreSources scopes lists =
    (block other : ℕ) → block < length scopes → has (slice_index_or lists block []) other
    ≡ (blocks_in scopes).scope other block

-- There are 1 to 4,096 blocks. Each is in its own scope, and scopes are of blocks of the graph.
pub record IsGraph (graph : AbstractGraph) : Type 0 where
  pub some : 1 ≤ (blocks_of graph).count
  pub few : (blocks_of graph).count ≤ 4096
  pub own : (block : ℕ) → block < (blocks_of graph).count
      → IsTrue ((blocks_of graph).scope block block)
  pub known : AreKnown graph.scopes

-- The lists are those of the blocks that interfere with each block.
pub record AreInterference (scopes lists : List (List ℕ)) : Type 0 where
  pub same : length lists ≡ length scopes
  pub each : (block other : ℕ) → block < length scopes → has (slice_index_or lists block []) other
      ≡ interferes (blocks_in scopes) block other

-- It is the graph of a task by its projection, whatever was wished for. The scope of a block is the
-- block and those that an edge leads to from it.
pub record IsGraphOf (parts : TaskParts) (graph : AbstractGraph) : Type 0 where
  pub fits : Fits parts graph.projection
  pub count : (blocks_of graph).count ≡ block_count parts graph.projection
  pub scope : (block other : ℕ) → block < block_count parts graph.projection
      → IsTrue ((blocks_of graph).scope block other)
      ↔ ((block ≡ other) ⊎ IsEdge parts graph.projection block other)

-- the home of a task's state in a graph of the task
abbrev pub home_of : TaskParts → AbstractGraph → (state : ℕ) → ℕ
home_of parts graph state = block_of parts graph.projection state
