-- Which block is leased next: best first, by the best Opened row of each block (Burns, Lemons,
-- Ruml, Zhou 2010).
use Rattle.std.specs.Prelude.{◌≡◌, ℕ, ◌+◌, ◌-◌, ◌<◌, IsTrue, IsFalse, Option, Some, None, ◌⊎◌, ⊤}
use Rattle.pb_model.specs.declared.key.Key.{Key}
use Rattle.pb_model.specs.Store.{Store, HasOpened}
use Rattle.pb_model.specs.Key.{IsBefore, IsBest}
use Rattle.pb_machine.specs.declared.settings.Settings.{Settings}
use Rattle.pb_machine.specs.Tables.{with_entry}
use Rattle.pb_machine.specs.Blocks.{Blocks, interferes}
use Rattle.pb_machine.specs.Counts.{Counts, quota_of, is_taken, is_near_hot}

-- block and other in order: the lesser key first, for equal keys the lesser number, and a block
-- without a key last
abbrev pub ComesBefore : (key : Option Key) → (block : ℕ) → (other_key : Option Key) → (other : ℕ)
    → Type 0
ComesBefore (Some key) block (Some other_key) other = IsBefore key block other_key other
ComesBefore (Some key) block None other = ⊤
ComesBefore None block (Some other_key) other = ⊥
ComesBefore None block None other = block < other

-- the one block is better than the other, by their best rows
abbrev pub IsBetter : Store → (block other : ℕ) → Type 0
IsBetter store block other =
    (key : Option Key) × (other_key : Option Key) × IsBest store.weight (store.rows block) key
    × IsBest store.weight (store.rows other) other_key × ComesBefore key block other_key other

-- the other block is in the interference of the block, and better
pub record IsBetterNear (blocks : Blocks) (store : Store) (block other : ℕ) : Type 0 where
  pub known : other < blocks.count
  pub near : IsTrue (interferes blocks block other)
  pub better : IsBetter store other block

-- the rival of the block: the best block of its interference that is better than it, or none if no
-- such block is better
abbrev pub IsRival : Blocks → Store → (block : ℕ) → (rival : Option ℕ) → Type 0
IsRival blocks store block None = (other : ℕ) → IsBetterNear blocks store block other → ⊥
IsRival blocks store block (Some rival) = IsBetterNear blocks store block rival
    × ((other : ℕ) → IsBetterNear blocks store block other
    → (other ≡ rival) ⊎ IsBetter store rival other)

-- the block may be leased
pub record MayBeLeased (blocks : Blocks) (settings : Settings) (counts : Counts) (store : Store)
    (block : ℕ) : Type 0 where
  pub known : block < blocks.count
  pub opened : HasOpened (store.rows block)
  pub free : IsFalse (is_taken blocks settings.workers counts.leases block)
  pub not_near_hot : IsFalse (is_near_hot blocks counts.hot block)
  pub left : 0 < counts.left
  pub no_end : counts.end ≡ None

-- the best of the blocks that may be leased
pub record IsFirstChoice (blocks : Blocks) (settings : Settings) (counts : Counts) (store : Store)
    (block : ℕ) : Type 0 where
  pub may : MayBeLeased blocks settings counts store block
  pub best : (other : ℕ) → MayBeLeased blocks settings counts store other
      → (other ≡ block) ⊎ IsBetter store block other

-- the counts with the worker's lease home: its used expansions are settled, and the hot blocks stay
-- as before
abbrev pub counts_with_lease_home : Counts → (worker used : ℕ) → Counts
counts_with_lease_home counts worker used =
    record counts {
      leases = with_entry counts.leases worker None;
      spent = counts.spent + used;
      left = counts.left + (quota_of (counts.leases worker) - used);
    }
