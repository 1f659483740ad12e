-- Blocks of states (nblocks), and which of them a lease takes: structured duplicate detection
-- (Zhou, Hansen 2004), as Parallel Best-NBlock-First search uses it (Burns, Lemons, Ruml, Zhou
-- 2010).
use Rattle.std.specs.Prelude.{ℕ, ◌<◌, Bool, IsTrue, not, ◌&&◌, ◌==◌}
use Rattle.pb_model.specs.Space.{Space, Steps}
use Rattle.pb_model.specs.Guide.{Guide}
use Rattle.pb_machine.specs.Tables.{any_below}

-- How many blocks there are, and which of them are in the scope of a block: itself and at least the
-- blocks that its states have successors in. A lease of the block takes the rows of its scope, and
-- no other lease may have any of these.
pub record Blocks : Type 0 where
  pub count : ℕ
  pub scope : (block other : ℕ) → Bool

-- Each state's home is one of the blocks. Each block is in its own scope, and a scope has only
-- blocks of these. Each step leads into the scope of the block that it begins in.
pub record AreBlocks (space : Space) (guide : Guide) (blocks : Blocks) : Type 0 where
  pub home : (state : ℕ) → IsTrue (space.is_state state) → guide.home state < blocks.count
  pub own : (block : ℕ) → block < blocks.count → IsTrue (blocks.scope block block)
  pub known : (block other : ℕ) → IsTrue (blocks.scope block other) → other < blocks.count
  pub steps : (from action to cost : ℕ) → Steps space from action to cost
      → IsTrue (blocks.scope (guide.home from) (guide.home to))

-- whether the scopes of the two blocks have a block in common
abbrev pub meets : Blocks → (block other : ℕ) → Bool
meets blocks block other =
    any_below blocks.count (λ shared. blocks.scope block shared && blocks.scope other shared)

-- whether the other block is in the interference of the block: they are two, and their scopes have
-- a block in common
abbrev pub interferes : Blocks → (block other : ℕ) → Bool
interferes blocks block other = not (block == other) && meets blocks block other
