-- The whole store, with its rows partly at home and partly in leases. Each lease has a
-- duplicate-detection scope (Zhou, Hansen 2004) to itself.
use Rattle.std.specs.Prelude.{◌≡◌, ℕ, Bool, not, IsTrue, Some, None}
use Rattle.pb_model.specs.Store.{Rows, Store}
use Rattle.pb_model.specs.Local.{AgreesOn}
use Rattle.pb_machine.specs.declared.event.Grant.{Grant}
use Rattle.pb_machine.specs.Tables.{any_below}
use Rattle.pb_machine.specs.Counts.{Counts, is_lease_of}
use Rattle.pb_machine.specs.Machine.{Setup}

-- whether the block is in the scope of a leased block
abbrev pub is_away : Setup → Counts → (block : ℕ) → Bool
is_away setup counts block =
    any_below setup.settings.workers (λ worker. is_lease_of
    (λ leased. setup.blocks.scope leased block) (counts.leases worker))

-- no row of these blocks is there
abbrev pub AreGone : (scope : ℕ → Bool) → Rows → Type 0
AreGone scope rows = (home state : ℕ) → IsTrue (scope home) → rows home state ≡ None

-- The whole store has the rows at home, of the blocks outside leased scopes. For each lease it has
-- the rows that were recorded when the lease was given or last renewed, of the blocks of its scope.
-- No row of a block that is away is at home, and no row of another block is recorded for a lease.
pub record IsWhole (setup : Setup) (counts : Counts) (home : Rows) (recorded : (worker : ℕ) → Rows)
    (store : Store) : Type 0 where
  pub home_rows : AgreesOn (λ block. not (is_away setup counts block)) store.rows home
  pub none_kept : AreGone (is_away setup counts) home
  pub recorded_rows : (worker : ℕ) (grant : Grant) → counts.leases worker ≡ Some grant
      → AgreesOn (setup.blocks.scope grant.block) store.rows (recorded worker)
  pub none_else : (worker : ℕ) (grant : Grant) → counts.leases worker ≡ Some grant
      → AreGone (λ block. not (setup.blocks.scope grant.block block)) (recorded worker)
