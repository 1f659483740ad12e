-- What a worker may do with a lease, and what it has done.
use Rattle.std.specs.Prelude.{◌≡◌, ℕ, Bool, false, List, [], ◌∷◌, Option, Some, IsFalse}
use Rattle.pb_model.specs.declared.row.Row.{Row}
use Rattle.pb_model.specs.Space.{Space}
use Rattle.pb_model.specs.Guide.{Guide}
use Rattle.pb_model.specs.Store.{Part, Store, MayBeCut}
use Rattle.pb_model.specs.Key.{IsFirstRow}
use Rattle.pb_model.specs.Work.{Work, lower, store_after, broken_expansions}
use Rattle.pb_machine.specs.declared.settings.Settings.{Settings}
use Rattle.pb_machine.specs.Settings.{AreInRange}
use Rattle.pb_machine.specs.Machine.{IsSetup, Machine, IsWorked, lent_store}
use Rattle.pb_machine.specs.Turns.{AreLeaseTurns}
use Rattle.pb_machine.specs.Lawful.{IsLawful}
use Rattle.pb_lists.specs.declared.bundle.FirstRow.{FirstRow}
use Rattle.pb_task.specs.declared.parts.TaskParts.{TaskParts}
use Rattle.pb_task.specs.Parts.{space_of, greatest_cost}
use Rattle.pb_estimate.specs.Choices.{Choice}
use Rattle.pb_abstract.specs.Graph.{AbstractGraph}
use Rattle.pb_lease.specs.LeaseValue.{LeaseValue, leased_store}
use Rattle.pb_lease.specs.Leased.{setup_of, guide_of, grant_of, HasScope}

-- the rows of the lease's own block
abbrev pub own_rows : LeaseValue → Part
own_rows lease = (leased_store lease).rows lease.block

-- The lease is out in the machine of a lawful moment of a search for this task by the blocks of
-- this graph, with estimates by this choice. Its rows come from those that it was given or last renewed with, and no expansion was
-- broken off. Its worker may have read the incumbent after that moment.
pub record IsAtWork (task : TaskParts) (abstraction : AbstractGraph) (choice : Choice)
    (lease : LeaseValue) : Type 0 where
  pub settings : Settings
  pub reopenings : ℕ
  pub machine : Machine
  pub is_setup : IsSetup (setup_of task abstraction choice settings reopenings) greatest_cost
  pub in_range : AreInRange settings
  pub lawful : IsLawful (setup_of task abstraction choice settings reopenings) machine
  pub leased : machine.counts.leases lease.worker ≡ Some (grant_of lease)
  pub known : Option ℕ → Bool
  pub work : IsWorked (space_of task) (guide_of task abstraction choice) lease.block lease.used 0
      known
      (lent_store (setup_of task abstraction choice settings reopenings) lease.block machine.store
      (machine.given lease.worker)) (leased_store lease)
  pub scope : HasScope abstraction lease
  pub choice_is : lease.choice ≡ choice

-- a worker that reads no incumbent
abbrev pub reads_none : Option ℕ → Bool
reads_none incumbent = false

-- From the one store to the other a worker did turns of a lease of this block. There were exactly
-- `used` expansions, exactly `broken` that were broken off, and any number of cuts and of goals.
-- What the worker read as the incumbent is known.
pub record HasTurned (space : Space) (guide : Guide) (known : Option ℕ → Bool)
    (block used broken : ℕ) (old new : Store) : Type 0 where
  pub work : IsWorked space guide block used broken known old new
  pub broken_is : broken_expansions work.works ≡ broken
  pub turns : AreLeaseTurns space guide work.works old

-- the incumbent that the work was done with, unless it is itself the taking of one that was read
abbrev pub with_copy : Work → (incumbent : Option ℕ) → (before : List (Option ℕ)) → List (Option ℕ)
with_copy (lower cost) incumbent before = before
with_copy work incumbent before = incumbent ∷ before

-- the incumbent that each turn was done with, the last one first, and then these
abbrev pub copies_of : Space → Guide → List Work → (old : Store) → (before : List (Option ℕ))
    → List (Option ℕ)
copies_of space guide [] old before = before
copies_of space guide (work ∷ works) old before =
    copies_of space guide works (store_after space guide work old)
    (with_copy work old.incumbent before)

-- From the one store to the other a worker did one turn, with the incumbent of the first store.
pub record HasTurnedOnce (space : Space) (guide : Guide) (known : Option ℕ → Bool)
    (block used broken : ℕ) (old new : Store) : Type 0 where
  pub turned : HasTurned space guide known block used broken old new
  pub once : (before : List (Option ℕ)) → copies_of space guide turned.work.works old before
      ≡ old.incumbent ∷ before

-- the first Opened row of the lease's block has this state, g and estimate
abbrev pub IsFirst : LeaseValue → FirstRow → Type 0
IsFirst lease first = (row : Row) × IsFirstRow lease.weight (own_rows lease) first.state row
    × (row.g ≡ first.g) × (row.estimate ≡ first.estimate)

-- the state has this row, which is the first Opened one of the lease's block, and the next turn is
-- its expansion
pub record IsNext (space : Space) (lease : LeaseValue) (state : ℕ) (row : Row) : Type 0 where
  pub first : IsFirstRow lease.weight (own_rows lease) state row
  pub kept : ¬ MayBeCut lease.weight lease.incumbent row.g row.estimate
  pub no_goal : IsFalse (space.is_goal state)

-- the next turn is the expansion of the row of this state, g and estimate
abbrev pub IsDue : Space → LeaseValue → FirstRow → Type 0
IsDue space lease first = (row : Row) × IsNext space lease first.state row
    × (row.g ≡ first.g) × (row.estimate ≡ first.estimate)
