-- What a worker that watches the incumbent knows, and what it shows of its lease.
use Rattle.std.specs.Prelude.{◌≡◌, ℕ, ◌+◌, ◌-◌, ◌<◌, ◌≤◌, ◌^◌, ⊤, Bool, true, false, List, [], ◌∷◌, Option, None, Some, IsTrue, IfSome}
use Rattle.pb_model.specs.Space.{Space}
use Rattle.pb_model.specs.Guide.{Guide}
use Rattle.pb_model.specs.Store.{Store, HasGoalWithin, AtMost, lesser}
use Rattle.pb_machine.specs.Machine.{IsWorked}
use Rattle.pb_machine.specs.Turns.{AreLeaseTurns}
use Rattle.pb_task.specs.declared.parts.TaskParts.{TaskParts}
use Rattle.pb_task.specs.Parts.{space_of}
use Rattle.pb_estimate.specs.Choices.{Choice}
use Rattle.pb_abstract.specs.Graph.{AbstractGraph}
use Rattle.pb_lease.specs.LeaseValue.{LeaseValue, leased_store, HasWeights, IsSameLease}
use Rattle.pb_lease.specs.Leased.{guide_of}
use Rattle.pb_expand.specs.Turned.{IsAtWork, HasTurned, copies_of, reads_none}

-- What a watch knows:
-- - what is searched, by which blocks and by which estimate,
-- - the lease as it was given or last renewed,
-- - what it has read as the incumbent, and what each of its reads has found, the last one first,
-- - the least cost that it has read or told,
-- - the least cost that it has told since the lease was given or last renewed.
pub record WatchView : Type 0 where
  pub task : TaskParts
  pub abstraction : AbstractGraph
  pub choice : Choice
  pub lent : Option LeaseValue
  pub read : Option ℕ → Bool
  pub answers : List (Option ℕ)
  pub least : Option ℕ
  pub told : Option ℕ

-- The lease came from the one that the watch's worker was lent, in turns: by exactly the expansions
-- that it counts, and by at most this many broken off. The watch has read what the worker read as
-- the incumbent.
pub record IsFromLent (space : Space) (guide : Guide) (view : WatchView) (most_broken : ℕ)
    (lease : LeaseValue) : Type 0 where
  pub lent : LeaseValue
  pub lent_is : view.lent ≡ Some lent
  pub same : IsSameLease lent lease
  pub work : IsWorked space guide lent.block lease.used most_broken view.read (leased_store lent)
      (leased_store lease)
  pub turns : AreLeaseTurns space guide work.works (leased_store lent)

-- The lease came from the one that was lent. Its incumbent is no lower than what the watch has read
-- or told. What was told is shown by a goal's row of the lease.
pub record IsWatched (space : Space) (guide : Guide) (view : WatchView) (most_broken : ℕ)
    (lease : LeaseValue) : Type 0 where
  pub from : IsFromLent space guide view most_broken lease
  pub copy : AtMost view.least lease.incumbent
  pub shown : (cost : ℕ) → view.told ≡ Some cost
      → HasGoalWithin space guide (leased_store lease) cost

-- The cost may be told: the lease has a goal's row that costs no more. The lease doesn't have the
-- cost as its incumbent before the cost is told. The greatest number stands for an unknown cost.
pub record MayTell (view : WatchView) (lease : LeaseValue) (cost : ℕ) : Type 0 where
  pub below : cost < 2 ^ 64 - 1
  pub watched : IsWatched (space_of view.task) (guide_of view.task view.abstraction view.choice)
      view 0 lease
  pub goal : HasGoalWithin (space_of view.task) (guide_of view.task view.abstraction view.choice)
      (leased_store lease)
      cost

-- It is the same search and the same lent lease, what was read stays read, and the least cost
-- doesn't rise.
pub record KeepsWatch (old new : WatchView) : Type 0 where
  pub others : new ≡ record old {
    read = new.read;
    answers = new.answers;
    least = new.least;
    told = new.told;
  }
  pub knows : (incumbent : Option ℕ) → IsTrue (old.read incumbent) → IsTrue (new.read incumbent)
  pub falls : AtMost new.least old.least

-- The watch has read once, and found this as the incumbent, which is the least cost that it knows
-- now.
pub record HasRead (old : WatchView) (found : Option ℕ) (new : WatchView) : Type 0 where
  pub kept : KeepsWatch old new
  pub told : new.told ≡ old.told
  pub read : (cost : ℕ) → found ≡ Some cost → IsTrue (new.read (Some cost))
  pub least : found ≡ new.least
  pub answers : new.answers ≡ found ∷ old.answers

-- The watch has told the cost, and read nothing.
pub record HasTold (old : WatchView) (cost : ℕ) (new : WatchView) : Type 0 where
  pub kept : KeepsWatch old new
  pub told : new.told ≡ lesser old.told (Some cost)
  pub least : new.least ≡ lesser old.least (Some cost)
  pub answers : new.answers ≡ old.answers

-- The watch is of a search for this task, by these blocks and by this estimate.
pub record IsOfSearch (task : TaskParts) (abstraction : AbstractGraph) (choice : Choice)
    (view : WatchView) : Type 0 where
  pub task_is : view.task ≡ task
  pub graph_is : view.abstraction ≡ abstraction
  pub choice_is : view.choice ≡ choice

-- ---- a watch, or none: a watch without a view reads none and is told nothing

-- what was read
abbrev pub known_by : Option WatchView → Option ℕ → Bool
known_by None = reads_none
known_by (Some view) = view.read

-- what each read has found, the last one first
abbrev pub answers_of : Option WatchView → List (Option ℕ)
answers_of None = []
answers_of (Some view) = view.answers

-- the answers are these; without a view there are none, and nothing is asked of them
abbrev pub HasAnswers : (view : Option WatchView) → List (Option ℕ) → Type 0
HasAnswers view answers = IfSome view (λ seen. seen.answers ≡ answers)

-- the lease has the least cost that was read or told
abbrev pub IsLevel : (view : Option WatchView) → LeaseValue → Type 0
IsLevel view lease = IfSome view (λ seen. lease.incumbent ≡ seen.least)

-- the lease came from the one that was lent, as the watch knows
abbrev pub IsUnder : Space → Guide → (view : Option WatchView) → (most_broken : ℕ) → LeaseValue
    → Type 0
IsUnder space guide view most_broken lease =
    IfSome view (λ seen. IsWatched space guide seen most_broken lease)

-- it is the same watch, or still none
abbrev pub Keeps : (old new : Option WatchView) → Type 0
Keeps None None = ⊤
Keeps (Some old) (Some new) = KeepsWatch old new
Keeps None (Some new) = ⊥
Keeps (Some old) None = ⊥

-- one read was made, which found this as the incumbent; without a view it found none
abbrev pub Reads : (old : Option WatchView) → (found : Option ℕ) → (new : Option WatchView) → Type 0
Reads None found None = found ≡ None
Reads (Some old) found (Some new) = HasRead old found new
Reads None found (Some new) = ⊥
Reads (Some old) found None = ⊥

-- the cost was told, if there is a view
abbrev pub Tells : (old : Option WatchView) → (cost : ℕ) → (new : Option WatchView) → Type 0
Tells None cost None = ⊤
Tells (Some old) cost (Some new) = HasTold old cost new
Tells None cost (Some new) = ⊥
Tells (Some old) cost None = ⊥

-- The lease may be worked on under this watch.
pub record IsAtWatch (task : TaskParts) (abstraction : AbstractGraph) (choice : Choice)
    (view : Option WatchView) (lease : LeaseValue) : Type 0 where
  pub search : IfSome view (λ seen. IsOfSearch task abstraction choice seen)
  pub at_work : IsAtWork task abstraction choice lease
  pub watched : IsUnder (space_of task) (guide_of task abstraction choice) view 0 lease
  pub within : lease.used ≤ lease.quota

-- ---- a read before each turn

-- these, and before them this one, if it was read and no turn came after that
abbrev pub with_read : (is_read : Bool) → (incumbent : Option ℕ) → (before : List (Option ℕ))
    → List (Option ℕ)
with_read true incumbent before = incumbent ∷ before
with_read false incumbent before = before

-- These turns, with a read before each if there is a view. The turns were done with what was read,
-- in the same order. Each turn has a read of its own. The only other read is one after the last
-- turn, which found what the store has. Without a view nothing was read.
pub record HasTurnedReading (space : Space) (guide : Guide) (block used broken : ℕ)
    (read_after : Bool) (old new : Store) (was now : Option WatchView) : Type 0 where
  pub turned : HasTurned space guide (known_by now) block used broken old new
  pub reads : HasAnswers now (with_read read_after new.incumbent
      (copies_of space guide turned.work.works old (answers_of was)))

-- From the one lease to the other its worker did turns under the watch. They have exactly this many
-- expansions more, and exactly this many that were broken off. If the lease's incumbent was what
-- the watch had read or told, it still is. Each turn has a read of its own before it. `read_before`
-- says whether a read came before the first turn, and `read_after` whether one came after the last.
pub record HasTurnedWatched (space : Space) (guide : Guide) (more broken : ℕ)
    (read_before read_after : Bool) (old : LeaseValue) (was : Option WatchView) (new : LeaseValue)
    (now : Option WatchView) : Type 0 where
  pub turned : HasTurned space guide (known_by now) old.block more broken (leased_store old)
      (leased_store new)
  pub same : IsSameLease old new
  pub used : new.used ≡ old.used + more
  pub weights : HasWeights old → HasWeights new
  pub kept : Keeps was now
  pub watched : IsUnder space guide now broken new
  pub level : IsLevel was old → IsLevel now new
  pub reads : (before : List (Option ℕ))
      → HasAnswers was (with_read read_before old.incumbent before)
      → HasAnswers now (with_read read_after new.incumbent
      (copies_of space guide turned.work.works (leased_store old) before))
