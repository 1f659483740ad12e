-- What a worker shows of a lease that it brings back, or goes on with: by its pass's view alone,
-- since it doesn't hold the graph.
use Rattle.std.specs.Prelude.{◌≡◌, ℕ, Some}
use Rattle.pb_model.specs.Store.{HasGoalWithin, AtMost}
use Rattle.pb_task.specs.Parts.{space_of}
use Rattle.pb_machine.specs.Machine.{IsWorked}
use Rattle.pb_machine.specs.Turns.{AreLeaseTurns}
use Rattle.pb_lease.specs.LeaseValue.{LeaseValue, leased_store, HasWeights, IsSameLease}
use Rattle.pb_lease.specs.Leased.{guide_of, grant_of}
use Rattle.pb_yard.specs.declared.view.View.{View}
use Rattle.pb_yard.specs.Views.{KeepsOrder}
use Rattle.pb_yard.specs.Rule.{grant_in, was_read}

-- The lease is the pass's: its worker's, of the block and with the quota that it was lent.
abbrev pub IsLeaseOf : View → LeaseValue → Type 0
IsLeaseOf view lease =
    (lease.worker ≡ view.journal.own.worker) × (grant_in view.lent ≡ Some (grant_of lease))

-- The lease came from the one that the pass was lent by the work of its worker. The work has
-- exactly the expansions that the lease counts, and at most this many broken off. If the worker keeps
-- the order, it was done in turns, each on the first Opened row of the block. What its worker told is shown by a goal's row
-- of the lease. The lease's incumbent is at least what the pass has read or told.
pub record IsBrought (view : View) (most_broken : ℕ) (lease : LeaseValue) : Type 0 where
  pub lent : LeaseValue
  pub lent_is : view.lent ≡ Some lent
  pub same : IsSameLease lent lease
  pub weights : HasWeights lease
  pub work : IsWorked (space_of view.task) (guide_of view.task view.abstraction view.choice)
      lent.block lease.used
      most_broken (was_read view) (leased_store lent) (leased_store lease)
  pub turns : KeepsOrder view → AreLeaseTurns (space_of view.task)
      (guide_of view.task view.abstraction view.choice) work.works (leased_store lent)
  pub copy : AtMost view.last lease.incumbent
  pub told : (cost : ℕ) → view.told ≡ Some cost
      → HasGoalWithin (space_of view.task) (guide_of view.task view.abstraction view.choice)
      (leased_store lease) cost

-- The lease came from the one that the pass was lent by the work of its worker. It has a goal's row
-- that costs at most this.
pub record IsFound (view : View) (lease : LeaseValue) (cost : ℕ) : Type 0 where
  pub lent : LeaseValue
  pub lent_is : view.lent ≡ Some lent
  pub same : IsSameLease lent lease
  pub work : IsWorked (space_of view.task) (guide_of view.task view.abstraction view.choice)
      lent.block lease.used 1
      (was_read view) (leased_store lent) (leased_store lease)
  pub shown : HasGoalWithin (space_of view.task) (guide_of view.task view.abstraction view.choice)
      (leased_store lease) cost
