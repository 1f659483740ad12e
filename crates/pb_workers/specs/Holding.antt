-- A worker that has a lease, and what it leaves.
use Rattle.std.specs.Prelude.{◌≡◌, ℕ, ◌+◌, ◌<◌, ◌≤◌, IsSome, is_some, None, Some, ◌⊎◌, ◌∷◌, []}
use Rattle.pb_model.specs.Store.{Rows}
use Rattle.pb_machine.specs.declared.event.Event.TheVariants.{Hot}
use Rattle.pb_machine.specs.declared.settings.Settings.{Settings}
use Rattle.pb_machine.specs.Tables.{count_below}
use Rattle.pb_machine.specs.Blocks.{interferes}
use Rattle.pb_machine.specs.Machine.{Machine}
use Rattle.pb_task.specs.declared.parts.TaskParts.{TaskParts}
use Rattle.pb_estimate.specs.Choices.{Choice}
use Rattle.pb_abstract.specs.Graph.{AbstractGraph}
use Rattle.pb_bundles.specs.Homes.{key_at}
use Rattle.pb_bundles.specs.Choosing.{IsRivalBy}
use Rattle.pb_lease.specs.Tables.{blocks}
use Rattle.pb_lease.specs.LeaseValue.{LeaseValue, IsSameLease}
use Rattle.pb_lease.specs.Leased.{setup_of, HasScope, IsOut, IsInTurns, IsOutInTurns}
use Rattle.pb_lease.specs.GraphValue.{GraphValue, setup_in, counts_in, IsOfGraph}
use Rattle.pb_lease.specs.Choices.{MayMark}
use Rattle.pb_lease.specs.Moments.{IsMoment}
use Rattle.pb_lease.specs.Steps.{IsMarked, KeepsLeases}
use Rattle.pb_yard.specs.Marking.{Turn, no_turn, turn_with}
use Rattle.pb_workers.specs.Runs.{IsSameSearch, RunsTo}
use Rattle.pb_workers.specs.Turns.{HasTurn, MayEnd}

-- what work makes of a lease that is out
abbrev pub Works : TaskParts → AbstractGraph → Choice → LeaseValue → LeaseValue → (broken : ℕ)
    → Type 0
Works task abstraction choice old new broken =
    (settings : Settings) (reopenings : ℕ) (machine : Machine)
    → (before : IsOut (setup_of task abstraction choice settings reopenings) machine 0 old)
    → (after : IsOut (setup_of task abstraction choice settings reopenings) machine broken new)
    × (IsInTurns (setup_of task abstraction choice settings reopenings) machine 0 old before
    → IsInTurns (setup_of task abstraction choice settings reopenings) machine broken new after)

-- The lease is the graph's, which has no end, and its block's noted key is that of an Opened row.
-- At some moment that the graph is, the lease is out and has worked in turns.
pub record IsHeld (g : GraphValue) (lease : LeaseValue) : Type 0 where
  pub of_graph : IsOfGraph g lease
  pub no_end : g.table.end ≡ None
  pub opened : IsSome (key_at g.homes lease.block)
  pub recorded : (worker : ℕ) → Rows
  pub machine : Machine
  pub moment : IsMoment g recorded machine
  pub out : IsOutInTurns (setup_in g) machine 0 lease

-- from each machine at which the old lease is out, a run in order leads to one at which this lease
-- is out; the new graph is a moment of it
abbrev pub RunsOut : (old : GraphValue) → LeaseValue → (new : GraphValue) → (kept : LeaseValue)
    → Type 0
RunsOut old lease new kept =
    (recorded : (worker : ℕ) → Rows) (machine : Machine) → IsMoment old recorded machine
    → IsOutInTurns (setup_in old) machine 0 lease
    → (after : (worker : ℕ) → Rows) × (next : Machine) × RunsTo old machine new after next
    × IsOutInTurns (setup_in new) next 0 kept

-- from each machine at which the lease is out, a run in order leads to a machine that the new graph
-- is a moment of
abbrev pub RunsHome : (old : GraphValue) → LeaseValue → (new : GraphValue) → Type 0
RunsHome old lease new =
    (recorded : (worker : ℕ) → Rows) (machine : Machine) → IsMoment old recorded machine
    → IsOutInTurns (setup_in old) machine 0 lease
    → (after : (worker : ℕ) → Rows) × (next : Machine) × RunsTo old machine new after next

-- how many expansions are left, those of the lease among them
abbrev pub left_with : GraphValue → LeaseValue → ℕ
left_with g lease = g.table.left + lease.quota

-- how many blocks have an Opened row, as the keys are noted
abbrev pub opened_blocks : GraphValue → ℕ
opened_blocks g = count_below (blocks g.table).count (λ block. is_some (key_at g.homes block))

-- the search came nearer to its end: it ended, or less is left of the budget, or as much is and
-- fewer blocks have an Opened row
abbrev pub IsNearer : (old : GraphValue) → LeaseValue → (new : GraphValue) → Type 0
IsNearer old lease new =
    IsSome new.table.end ⊎ (new.table.left < left_with old lease)
    ⊎ ((new.table.left ≡ left_with old lease) × (opened_blocks new < opened_blocks old))

-- the block became hot if it might, and else nothing changed
pub record MarksWhereMay (old : GraphValue) (worker block : ℕ) (new : GraphValue) : Type 0 where
  pub may : MayMark old worker block → IsMarked old worker (Hot worker block) new
  pub may_not : (MayMark old worker block → ⊥) → new ≡ old

-- the rival of the lease's block became hot, if there is one and it might
abbrev pub MarksRival : (old : GraphValue) → LeaseValue → (new : GraphValue) → Type 0
MarksRival old lease new =
    (IsRivalBy (interferes (blocks old.table) lease.block) (key_at old.homes) lease.block None
    × (new ≡ old))
    ⊎ ((rival : ℕ) × IsRivalBy (interferes (blocks old.table) lease.block) (key_at old.homes)
    lease.block (Some rival) × MarksWhereMay old lease.worker rival new)

-- nothing changed, or a block became hot, and the leases that are out stay as they are
abbrev pub IsMarkedAtMost : (old : GraphValue) → (worker : ℕ) → (new : GraphValue) → Type 0
IsMarkedAtMost old worker new =
    (new ≡ old) ⊎ ((block : ℕ) × IsMarked old worker (Hot worker block) new
    × KeepsLeases old (Hot worker block ∷ []) new)

-- the graph told this rival of the lease's block
pub record IsToldRival (old : GraphValue) (lease : LeaseValue) (rival : ℕ) (new : GraphValue) :
    Type 0 where
  pub rival_is : IsRivalBy (interferes (blocks new.table) lease.block) (key_at new.homes)
      lease.block (Some rival)
  pub known : rival < (blocks new.table).count
  pub same : new ≡ old

-- ---- a worker's lease, from when it was given until it comes back

-- the lease went on with less of the budget, or it is where it began
abbrev pub IsOn : (first : GraphValue) → LeaseValue → (now : GraphValue) → LeaseValue → Type 0
IsOn first lease now held =
    (left_with now held < left_with first lease) ⊎ ((now ≡ first) × (held ≡ lease))

-- The lease that was given at the first graph went on until it is this one, which is held now. It
-- is the same search, and a run in order leads from the one lease to the other. If the worker's
-- marks were in turn before, they are now, and this turn has none yet.
pub record GoesOnTo (begin : GraphValue) (given : LeaseValue) (now : GraphValue)
    (lease : LeaseValue) : Type 0 where
  pub held : IsHeld now lease
  pub worker : lease.worker ≡ given.worker
  pub same : IsSameSearch begin now
  pub signed_off : (counts_in now).signed_off ≡ (counts_in begin).signed_off
  pub runs : RunsOut begin given now lease
  pub on : IsOn begin given now lease
  pub turn : HasTurn begin given.worker (turn_with given.quota)
      → HasTurn now given.worker (turn_with lease.quota)

-- Of the lease that was held at this graph its worker has made this one, by at most so many
-- expansions that were broken off.
pub record IsWorkOf (g : GraphValue) (held worked : LeaseValue) (broken : ℕ) : Type 0 where
  pub works : Works g.task g.table.abstraction held.choice held worked broken
  pub within : worked.used ≤ worked.quota
  pub same : IsSameLease held worked
  pub scope : HasScope g.table.abstraction worked

-- the lease went on, and then it was worked on
pub record HasWorkedOn (begin : GraphValue) (given : LeaseValue) (now : GraphValue)
    (lease : LeaseValue) (broken : ℕ) : Type 0 where
  pub held : LeaseValue
  pub on : GoesOnTo begin given now held
  pub work : IsWorkOf now held lease broken

-- The lease went on, then it was worked on, and then at most one block was marked. With a mark the
-- quota is used up.
pub record IsToReturn (begin : GraphValue) (given : LeaseValue) (now : GraphValue)
    (lease : LeaseValue) (broken : ℕ) : Type 0 where
  pub first : GraphValue
  pub held : LeaseValue
  pub on : GoesOnTo begin given first held
  pub work : IsWorkOf first held lease broken
  pub mark : IsMarkedAtMost first lease.worker now
  pub turn : HasTurn begin given.worker (turn_with given.quota)
      → (turn : Turn) × HasTurn now given.worker turn × MayEnd turn lease.used broken

-- The lease that was given at the first graph came back, by a run in order. It is the same search,
-- which came nearer to its end. The worker's marks are in turn if they were before.
pub record IsBack (begin : GraphValue) (given : LeaseValue) (now : GraphValue) : Type 0 where
  pub home : RunsHome begin given now
  pub vacant : (counts_in now).leases given.worker ≡ None
  pub nearer : IsNearer begin given now
  pub same : IsSameSearch begin now
  pub signed_off : (counts_in now).signed_off ≡ (counts_in begin).signed_off
  pub turn : HasTurn begin given.worker (turn_with given.quota) → HasTurn now given.worker no_turn
