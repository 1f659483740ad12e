-- Which block a graph leases next, and when the search is over.
use Rattle.std.specs.Prelude.{◌≡◌, ℕ, ◌<◌, Bool, ◌&&◌, IsTrue, IsFalse, IsSome, Option, Some, None, ◌⊎◌}
use Rattle.pb_machine.specs.declared.event.End.{End}
use Rattle.pb_machine.specs.declared.event.End.TheVariants.{Quiet, Budget, Memory}
use Rattle.pb_machine.specs.Blocks.{interferes}
use Rattle.pb_machine.specs.Counts.{is_any_out, is_busy}
use Rattle.pb_machine.specs.Choice.{counts_with_lease_home}
use Rattle.pb_bundles.specs.Homes.{key_at}
use Rattle.pb_bundles.specs.Choosing.{IsBetterBy, IsFirstBy}
use Rattle.pb_lease.specs.Tables.{blocks, rooms}
use Rattle.pb_lease.specs.Leasing.{can_be_leased, is_clear}
use Rattle.pb_lease.specs.LeaseValue.{LeaseValue}
use Rattle.pb_lease.specs.GraphValue.{GraphValue, counts_in}

-- it is the best of the blocks that may be leased, by the numbers and by the noted keys; or it is
-- none, and there is no such block
abbrev pub IsChoice : GraphValue → Option ℕ → Type 0
IsChoice g =
    IsFirstBy (can_be_leased (blocks g.table) g.table.settings (counts_in g)) (key_at g.homes)

-- the same with the lease home, at the keys of the other graph
abbrev pub IsChoiceWithHome : (old : GraphValue) → LeaseValue → (keyed : GraphValue) → Option ℕ
    → Type 0
IsChoiceWithHome old lease keyed =
    IsFirstBy (can_be_leased (blocks old.table) old.table.settings
    (counts_with_lease_home (counts_in old) lease.worker lease.used)) (key_at keyed.homes)

-- whether the block may be leased with the lease home, if it has an Opened row
abbrev pub can_be_leased_home : GraphValue → LeaseValue → (block : ℕ) → Bool
can_be_leased_home g lease =
    can_be_leased (blocks g.table) g.table.settings
    (counts_with_lease_home (counts_in g) lease.worker lease.used)

-- It is the best of those of these blocks that may be leased with the lease home. Or it is none, and
-- there is no such block.
abbrev pub IsBestWithHome : GraphValue → LeaseValue → (listed : ℕ → Bool) → Option ℕ → Type 0
IsBestWithHome g lease listed =
    IsFirstBy (λ block. listed block && can_be_leased_home g lease block) (key_at g.homes)

-- whether no hot block and no leased one forbids a lease of the block
abbrev pub is_clear_in : GraphValue → (block : ℕ) → Bool
is_clear_in g = is_clear (blocks g.table) g.table.settings.workers (counts_in g)

abbrev pub is_out_in : GraphValue → Bool
is_out_in g = is_any_out g.table.settings.workers (counts_in g).leases

-- some row is Opened, as the keys are noted
abbrev pub IsAnyOpened : GraphValue → Type 0
IsAnyOpened g = (block : ℕ) × IsSome (key_at g.homes block)

-- If no lease is out, the search ends: quietly if no row is Opened, and else by the budget if
-- nothing is left of it.
abbrev pub IsDone : GraphValue → End → Type 0
IsDone g Quiet = IsAnyOpened g → ⊥
IsDone g Budget = IsAnyOpened g × (g.table.left ≡ 0)
IsDone g Memory = ⊥

-- the search has this end, or comes to it now
abbrev pub IsOver : GraphValue → End → Type 0
IsOver g end =
    (g.table.end ≡ Some end) ⊎ ((g.table.end ≡ None) × IsFalse (is_out_in g) × IsDone g end)

-- the search has not ended, some lease is out, and no block may be leased
pub record IsToWait (g : GraphValue) : Type 0 where
  pub no_end : g.table.end ≡ None
  pub out : IsTrue (is_out_in g)
  pub none_free : IsChoice g None

-- a better block of its interference is hot
abbrev pub IsOutranked : GraphValue → (block : ℕ) → Type 0
IsOutranked g block =
    (other : ℕ) × IsTrue (interferes (blocks g.table) block other)
    × IsTrue ((counts_in g).hot other)
    × IsBetterBy (key_at g.homes) other block

-- the worker may mark the block hot
pub record MayMark (g : GraphValue) (worker block : ℕ) : Type 0 where
  pub no_end : g.table.end ≡ None
  pub not_plain : IsFalse g.table.settings.plain
  pub cold : IsFalse ((counts_in g).hot block)
  pub busy : IsTrue (is_busy (blocks g.table) g.table.settings.workers (counts_in g).leases block)
  pub none_better : IsOutranked g block → ⊥
  pub room : 0 < rooms g.table worker

-- the worker may take the block's mark away
pub record MayCool (g : GraphValue) (worker block : ℕ) : Type 0 where
  pub no_end : g.table.end ≡ None
  pub hot : IsTrue ((counts_in g).hot block)
  pub room : 0 < rooms g.table worker
