-- A worker that shares a yard with others: its lease, from when it was given until it comes back.
use Rattle.std.specs.Prelude.{◌≡◌, ◌<◌, ℕ, Some}
use Rattle.pb_abstract.specs.Graph.{blocks_of, IsGraphOf}
use Rattle.pb_lease.specs.LeaseValue.{LeaseValue}
use Rattle.pb_yard.specs.Passes.{view_of, worker_of, KeepsPass}
use Rattle.pb_yard.specs.Returning.{IsLeaseOf, IsBrought}
use Rattle.pb_yard.specs.Calls.{IsActive, AsksRival}
use Rattle.pb_workers.specs.declared.yard_watch.YardWatch.{YardWatch}
use Rattle.pb_workers.specs.Watching.{IsWatchOf}
use Rattle.pb_yard.specs.Marking.{Turn, turn_with}
use Rattle.pb_workers.specs.Turns.{HasTurnIn, IsBetweenTurns, MayEnd}
use Rattle.pb_workers.specs.Shared.{IsSameHolder, IsIdle, IsLeased}

-- it is the same pass of the same yard, of the same worker in the same search
pub record IsSameWorker (old new : YardWatch) : Type 0 where
  pub yard : new.yard.now ≡ old.yard.now
  pub pass : KeepsPass old.pass new.pass
  pub holder : IsSameHolder (view_of old.pass) (view_of new.pass)

-- Since the one watch, the worker came to have this lease, as it was given or last renewed. If its
-- marks were in turn before, they are now, and this turn has none yet.
pub record HasLease (begin now : YardWatch) (lease : LeaseValue) : Type 0 where
  pub own : IsWatchOf now
  pub since : IsSameWorker begin now
  pub leased : IsLeased (view_of now.pass).task (view_of now.pass).abstraction (view_of now.pass) lease
  pub turn : IsBetweenTurns (view_of begin.pass)
      → HasTurnIn (view_of now.pass) (turn_with lease.quota)

-- Since the one watch, the worker came to have a lease, and made this one of it by work in turns.
-- At most so many expansions were broken off.
pub record HasWork (begin now : YardWatch) (lease : LeaseValue) (broken : ℕ) : Type 0 where
  pub own : IsWatchOf now
  pub since : IsSameWorker begin now
  pub of_task : IsGraphOf (view_of now.pass).task (view_of now.pass).abstraction
  pub stays : IsActive (view_of now.pass)
  pub lease_of : IsLeaseOf (view_of now.pass) lease
  pub brought : IsBrought (view_of now.pass) broken lease

-- The same, and this turn has no mark.
pub record HasUnmarkedWork (begin now : YardWatch) (lease : LeaseValue) (broken : ℕ) : Type 0 where
  pub work : HasWork begin now lease broken
  pub turn : IsBetweenTurns (view_of begin.pass)
      → HasTurnIn (view_of now.pass) (turn_with lease.quota)

-- The same, and this turn has no mark, or one that was made with the quota used up.
pub record HasWorkToReturn (begin now : YardWatch) (lease : LeaseValue) (broken : ℕ) : Type 0 where
  pub work : HasWork begin now lease broken
  pub turn : IsBetweenTurns (view_of begin.pass)
      → (turn : Turn) × HasTurnIn (view_of now.pass) turn × MayEnd turn lease.used broken

-- Since the one watch, the worker's lease came back. Its marks are in turn if they were before.
pub record HasNone (begin now : YardWatch) : Type 0 where
  pub own : IsWatchOf now
  pub since : IsSameWorker begin now
  pub idle : IsIdle (view_of now.pass).task (view_of now.pass).abstraction (view_of now.pass)
  pub turn : IsBetweenTurns (view_of begin.pass) → IsBetweenTurns (view_of now.pass)

-- the pass was told this rival of its lease's block
pub record IsToldRivalIn (old : YardWatch) (lease : LeaseValue) (rival : ℕ) (new : YardWatch) :
    Type 0 where
  pub asked : AsksRival lease (view_of old.pass) (Some rival) (view_of new.pass)
  pub known : rival < (blocks_of (view_of new.pass).abstraction).count
  pub worker : worker_of new.pass ≡ worker_of old.pass
