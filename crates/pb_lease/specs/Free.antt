-- The keys by which a graph chooses its next block. Of the blocks that are clear they are those that
-- are noted. Any other block may have any key among them, since it can't be leased.
use Rattle.std.specs.Prelude.{◌≡◌, ℕ, ◌<◌, ◌⊎◌, IsTrue, List, Option, None, length, get_or}
use Rattle.pb_model.specs.declared.key.Key.{Key}
use Rattle.pb_machine.specs.Blocks.{interferes}
use Rattle.pb_abstract.specs.Graph.{has}
use Rattle.pb_lease.specs.Tables.{Table, blocks, counts_of}
use Rattle.pb_lease.specs.Leasing.{is_clear}
use Rattle.pb_lease.specs.Leased.{FitsScopes}
use Rattle.pb_lease.specs.GraphValue.{GraphValue, IsLeaseGraph}

-- each clear block has its noted key
pub record ShowsClear (table : Table) (keys free : List (Option Key)) : Type 0 where
  pub places : length free ≡ (blocks table).count
  pub shown : (block : ℕ) → block < (blocks table).count
      → IsTrue (is_clear (blocks table) table.settings.workers (counts_of table) block)
      → get_or free block None ≡ get_or keys block None

-- what is true of every graph, of its keys for the choice, and of the length of its greatest scope
pub record IsKeptGraph (g : GraphValue) (free : List (Option Key)) (greatest : ℕ) : Type 0 where
  pub lawful : IsLeaseGraph g
  pub shows : ShowsClear g.table g.homes.keys free
  pub greatest_is : FitsScopes g.table.abstraction greatest

-- Each of these blocks has its noted key now, and any other block has its noted key or what it had.
pub record Shows (listed : ℕ → Type 0) (keys old new : List (Option Key)) : Type 0 where
  pub here : (block : ℕ) → listed block → get_or new block None ≡ get_or keys block None
  pub others : (block : ℕ) → (get_or new block None ≡ get_or keys block None)
      ⊎ (get_or new block None ≡ get_or old block None)
  pub count : length new ≡ length old

-- the block is among these
abbrev pub IsIn : List ℕ → (block : ℕ) → Type 0
IsIn near block = IsTrue (has near block)

-- the same, if the block is clear
abbrev pub IsClearIn : Table → List ℕ → (block : ℕ) → Type 0
IsClearIn table near block = IsTrue (has near block)
    × IsTrue (is_clear (blocks table) table.settings.workers (counts_of table) block)

-- the block interferes with one of these that is hot
abbrev pub IsBesideHotIn : Table → List ℕ → (block : ℕ) → Type 0
IsBesideHotIn table near block = (other : ℕ) × IsTrue (has near other)
    × IsTrue ((counts_of table).hot other) × IsTrue (interferes (blocks table) other block)

-- the block interferes with a hot one that interferes with this one
abbrev pub IsBesideHot : Table → (own block : ℕ) → Type 0
IsBesideHot table own block = (other : ℕ) × IsTrue (interferes (blocks table) own other)
    × IsTrue ((counts_of table).hot other) × IsTrue (interferes (blocks table) other block)

-- no clear block has another key than before
pub record KeepsClear (table : Table) (old new : List (Option Key)) : Type 0 where
  pub kept : (block : ℕ) → block < (blocks table).count
      → IsTrue (is_clear (blocks table) table.settings.workers (counts_of table) block)
      → get_or new block None ≡ get_or old block None
  pub count : length new ≡ length old
