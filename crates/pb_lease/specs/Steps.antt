-- What each call of a graph leaves.
use Rattle.std.specs.Prelude.{◌≡◌, ◌≢◌, ℕ, ◌+◌, ◌-◌, ◌<◌, ◌≤◌, ◌↔◌, ◌⊎◌, min, Bool, false, IsTrue, if◌then◌else◌, List, [], ◌∷◌, Option, Some, None}
use Rattle.std.specs.Option.{option_or}
use Rattle.pb_model.specs.Store.{Rows, lesser}
use Rattle.pb_model.specs.Local.{merged_store}
use Rattle.pb_machine.specs.declared.event.End.{End}
use Rattle.pb_machine.specs.declared.event.Event.{Event}
use Rattle.pb_machine.specs.declared.event.Event.TheVariants.{Lease, Renew, Release, Off, Ended}
use Rattle.pb_machine.specs.Tables.{with_entry, one_if}
use Rattle.pb_machine.specs.Choice.{IsFirstChoice, counts_with_lease_home}
use Rattle.pb_machine.specs.Machine.{Machine, Move, switch_move, lent_store, KeepsRows}
use Rattle.pb_machine.specs.Turns.{RunsInOrder}
use Rattle.pb_bundles.specs.Parts.{content_in, away_rows}
use Rattle.pb_bundles.specs.Homes.{content_at}
use Rattle.pb_bundles.specs.Moves.{NotesKeys}
use Rattle.pb_lease.specs.Tables.{blocks, rooms}
use Rattle.pb_lease.specs.Events.{Adds, ending}
use Rattle.pb_lease.specs.LeaseValue.{LeaseValue, leased_store}
use Rattle.pb_lease.specs.Leased.{IsOut, IsInTurns, IsOutInTurns}
use Rattle.pb_lease.specs.GraphValue.{GraphValue, setup_in, IsOfGraph}
use Rattle.pb_lease.specs.Choices.{IsChoice, IsChoiceWithHome}
use Rattle.pb_lease.specs.Moments.{IsMomentAt, Follows, FollowsBy, ShowsTold, IsKnownThen, brought_incumbent, moves_of}

-- ---- a lease

-- The worker has this new lease: of the first choice, with a lot or with all that is left of the
-- budget, with the incumbent and with the search's weight. The lease has the bundles of the scope,
-- which are no longer at home. The lease is the one event, there is room for 63 more of the
-- worker's, and all else is as before.
pub record IsLeased (old : GraphValue) (worker : ℕ) (lease : LeaseValue) (new : GraphValue) : Type 0
  where
    pub first : IsChoice old (Some lease.block)
    pub worker_is : lease.worker ≡ worker
    pub quota : lease.quota ≡ min old.table.settings.lot old.table.left
    pub used : lease.used ≡ 0
    pub lent_incumbent : lease.incumbent ≡ old.incumbent
    pub of_graph : IsOfGraph new lease
    pub moved : (block : ℕ) → content_in lease.parts block
        ≡ (if (blocks old.table).scope lease.block block then content_at old.homes block else None)
    pub left : (block : ℕ) → content_at new.homes block
        ≡ (if (blocks old.table).scope lease.block block then None else content_at old.homes block)
    pub keys : new.homes.keys ≡ old.homes.keys
    pub events : Adds old.table new.table (Lease worker lease.block lease.quota ∷ [])
    pub room : rooms new.table ≡ with_entry (rooms old.table) worker 63
    pub task : new.task ≡ old.task
    pub choice : new.choice ≡ old.choice
    pub incumbent : new.incumbent ≡ old.incumbent

-- From each moment of the old graph the lease leads to one of the new graph. What the lease has is
-- recorded for it there, and it has done nothing yet: it has the rows that it was lent. The event
-- is in order.
abbrev pub LeasesNext : (old : GraphValue) → LeaseValue → (new : GraphValue) → Type 0
LeasesNext old lease new =
    (recorded : (worker : ℕ) → Rows) (machine : Machine) → IsMomentAt old recorded machine
    → (next : Machine) × Follows old machine (Lease lease.worker lease.block lease.quota ∷ []) new
    (with_entry recorded lease.worker (away_rows lease.parts)) next
    × (next.given lease.worker ≡ lease.incumbent) × IsOutInTurns (setup_in new) next 0 lease
    × (next.store ≡ machine.store) × (next.told ≡ with_entry machine.told lease.worker None)
    × RunsInOrder (setup_in old) machine
    (moves_of (Lease lease.worker lease.block lease.quota ∷ [])) next
    × (leased_store lease ≡ lent_store (setup_in old) lease.block next.store
    (next.given lease.worker))

-- ---- an end

-- the event of the end, if the search had not ended before
abbrev pub end_events : Option End → End → List Event
end_events None end = Ended end ∷ []
end_events (Some standing) end = []

-- the end is the one event, if the search had not ended before, and nothing else changed
pub record IsEnded (old : GraphValue) (end : End) (new : GraphValue) : Type 0 where
  pub standing : old.table.end ≡ Some end → new ≡ old
  pub events : Adds old.table new.table (end_events old.table.end end)
  pub room : rooms new.table ≡ rooms old.table
  pub rest : new ≡ record old { table = new.table }

-- From each moment of the old graph these events, which are in order, lead to one of the new graph.
-- No row changes, and the leases that are out stay as before.
abbrev pub KeepsLeases : (old : GraphValue) → List Event → (new : GraphValue) → Type 0
KeepsLeases old events new =
    (recorded : (worker : ℕ) → Rows) (machine : Machine) → IsMomentAt old recorded machine
    → (next : Machine) × Follows old machine events new recorded next × KeepsRows machine next
    × (next.counts.leases ≡ machine.counts.leases)
    × RunsInOrder (setup_in old) machine (moves_of events) next

-- ---- marks, and workers that sign off

-- the mark is the one event and takes one of the worker's room; nothing else changed
pub record IsMarked (old : GraphValue) (worker : ℕ) (event : Event) (new : GraphValue) : Type 0
  where
    pub events : Adds old.table new.table (event ∷ [])
    pub room : rooms new.table ≡ with_entry (rooms old.table) worker (rooms old.table worker - 1)
    pub rest : new ≡ record old { table = new.table }

-- The sign-off is the one event, unless the worker reports out of memory before the end. In that
-- case the end by this report is a second event. Nothing else changed.
pub record IsSignedOff (old : GraphValue) (worker : ℕ) (memory : Bool) (new : GraphValue) : Type 0
  where
    pub events : Adds old.table new.table (Off worker memory ∷ ending memory old.table.end)
    pub room : rooms new.table ≡ rooms old.table
    pub rest : new ≡ record old { table = new.table }

-- ---- a lease that comes back, or goes on

-- The lease's bundles are home, their keys are noted, and the incumbent is the lesser of both. The
-- release is the one event, unless the worker reports out of memory before the end. In that case
-- the end by this report is a second event. All else is as before.
pub record IsReleased (old : GraphValue) (lease : LeaseValue) (memory : Bool) (new : GraphValue) :
    Type 0 where
  pub home : (block : ℕ) → content_at new.homes block
      ≡ option_or (content_in lease.parts block) (content_at old.homes block)
  pub noted : NotesKeys lease.parts old.homes.keys new.homes.keys
  pub events : Adds old.table new.table (Release lease.worker lease.used memory
      ∷ ending memory old.table.end)
  pub room : rooms new.table ≡ with_entry (rooms old.table) lease.worker 0
  pub task : new.task ≡ old.task
  pub choice : new.choice ≡ old.choice
  pub incumbent : new.incumbent ≡ lesser old.incumbent lease.incumbent

-- Take any moment of the old graph at which the lease is out, with at most so many expansions
-- broken off. Let the lease show what its worker told. If each worker can then have read the new
-- graph's incumbent, these events lead to a moment of the new graph. They are in order if the
-- lease has worked in turns.
abbrev pub ReleasesNext : (old : GraphValue) → LeaseValue → (memory : Bool) → (new : GraphValue)
    → Type 0
ReleasesNext old lease memory new =
    (recorded : (worker : ℕ) → Rows) (machine : Machine) → IsMomentAt old recorded machine
    → (out : IsOut (setup_in old) machine (one_if memory) lease)
    → ShowsTold old machine lease → IsKnownThen machine lease new.incumbent
    → (next : Machine) × Follows old machine (Release lease.worker lease.used memory
    ∷ ending memory old.table.end) new recorded next
    × (next.store.incumbent ≡ brought_incumbent machine lease)
    × (next.told ≡ with_entry machine.told lease.worker None)
    × (IsInTurns (setup_in old) machine (one_if memory) lease out
    → RunsInOrder (setup_in old) machine
    (moves_of (Release lease.worker lease.used memory ∷ ending memory old.table.end)) next)

-- the quota that a lease is renewed with: a lot, or all that is left with what it didn't use
abbrev pub renewed_quota : GraphValue → LeaseValue → ℕ
renewed_quota g lease = min g.table.settings.lot (g.table.left + (lease.quota - lease.used))

-- The lease goes on with its bundles, another quota and the lesser incumbent of both, which the
-- graph has too. The keys of its bundles are noted. The renewal is the one event, and takes one of
-- the worker's room; all else is as before.
pub record IsRenewed (old : GraphValue) (lease kept : LeaseValue) (new : GraphValue) : Type 0 where
  pub kept_is : kept ≡ record lease {
    quota = renewed_quota old lease;
    used = 0;
    incumbent = lesser old.incumbent lease.incumbent;
  }
  pub of_graph : IsOfGraph new kept
  pub bundles : new.homes.bundles ≡ old.homes.bundles
  pub noted : NotesKeys lease.parts old.homes.keys new.homes.keys
  pub events : Adds old.table new.table (Renew lease.worker lease.used (renewed_quota old lease)
      ∷ [])
  pub room : rooms new.table ≡ with_entry (rooms old.table) lease.worker
      (rooms old.table lease.worker - 1)
  pub task : new.task ≡ old.task
  pub choice : new.choice ≡ old.choice
  pub incumbent : new.incumbent ≡ lesser old.incumbent lease.incumbent

-- From each such moment of the old graph the renewal leads to one of the new graph. What the lease
-- has is recorded for it there, and it has done nothing yet: it has the rows that it is lent again.
-- The renewal is in order if the lease has worked in turns.
abbrev pub RenewsNext : (old : GraphValue) → (lease kept : LeaseValue) → (new : GraphValue) → Type 0
RenewsNext old lease kept new =
    (recorded : (worker : ℕ) → Rows) (machine : Machine) → IsMomentAt old recorded machine
    → (out : IsOut (setup_in old) machine 0 lease)
    → ShowsTold old machine lease → IsKnownThen machine lease new.incumbent
    → (next : Machine) × Follows old machine (Renew lease.worker lease.used kept.quota ∷ []) new
    (with_entry recorded lease.worker (away_rows kept.parts)) next
    × (next.given kept.worker ≡ kept.incumbent) × IsOutInTurns (setup_in new) next 0 kept
    × (next.store.incumbent ≡ brought_incumbent machine lease)
    × (next.told ≡ with_entry machine.told lease.worker None)
    × (IsInTurns (setup_in old) machine 0 lease out
    → RunsInOrder (setup_in old) machine
    (moves_of (Renew lease.worker lease.used kept.quota ∷ [])) next)
    × (leased_store kept ≡ lent_store (setup_in old) kept.block next.store (next.given kept.worker))

-- The lease is renewed exactly if, with it home, its block is the first choice, and room is left.
-- Else it came back.
abbrev pub GoesOn : (old : GraphValue) → LeaseValue → (new : GraphValue) → Type 0
GoesOn old lease new =
    IsChoiceWithHome old lease new (Some lease.block) × (0 < rooms old.table lease.worker)

-- At each moment of the old graph, with the lease home, two tests agree on whether the lease's
-- block is the first choice. One goes by the keys of the new graph, the other by the rows of the
-- whole store with the lease's.
abbrev pub ChoosesByRows : (old : GraphValue) → LeaseValue → (new : GraphValue) → Type 0
ChoosesByRows old lease new =
    (recorded : (worker : ℕ) → Rows) (machine : Machine) → IsMomentAt old recorded machine
    → IsChoiceWithHome old lease new (Some lease.block)
    ↔ IsFirstChoice (blocks old.table) old.table.settings
    (counts_with_lease_home machine.counts lease.worker lease.used)
    (merged_store ((blocks old.table).scope lease.block) (leased_store lease) machine.store)
    lease.block

-- The same of whichever block is the first choice with the lease home.
abbrev pub ChoosesAnyByRows : (old : GraphValue) → LeaseValue → (new : GraphValue) → Type 0
ChoosesAnyByRows old lease new =
    (recorded : (worker : ℕ) → Rows) (machine : Machine) → IsMomentAt old recorded machine
    → (block : ℕ) → IsChoiceWithHome old lease new (Some block)
    ↔ IsFirstChoice (blocks old.table) old.table.settings
    (counts_with_lease_home machine.counts lease.worker lease.used)
    (merged_store ((blocks old.table).scope lease.block) (leased_store lease) machine.store)
    block

-- ---- a worker that goes on to another block

-- With the lease home another block is the first choice, and the room is enough for the return of
-- the lease and for the next lease.
abbrev pub GoesOver : (old : GraphValue) → LeaseValue → (new : GraphValue) → (block : ℕ) → Type 0
GoesOver old lease new block =
    IsChoiceWithHome old lease new (Some block) × (block ≢ lease.block)
    × (1 < rooms old.table lease.worker)

-- The worker can't go on: with the lease home no block may be leased, or the room is too small. A
-- renewal takes one of it, and another block takes two.
abbrev pub ComesBack : (old : GraphValue) → LeaseValue → (new : GraphValue) → Type 0
ComesBack old lease new =
    IsChoiceWithHome old lease new None
    ⊎ (IsChoiceWithHome old lease new (Some lease.block)
    × (rooms old.table lease.worker ≡ 0))
    ⊎ ((block : ℕ) × IsChoiceWithHome old lease new (Some block) × (block ≢ lease.block)
    × (rooms old.table lease.worker ≤ 1))

-- the move of a worker that goes on to the block of the next lease
abbrev pub switch_of : (lease next : LeaseValue) → Move
switch_of lease next = switch_move lease.worker lease.used next.block next.quota

-- its events
abbrev pub switch_events : (lease next : LeaseValue) → List Event
switch_events lease next =
    Release lease.worker lease.used false ∷ Lease lease.worker next.block next.quota ∷ []

-- The lease came back, and its worker has the next one. The bundles of the lease are home, but for
-- those of the next one's scope, and their keys are noted. The incumbent is the lesser of both. The
-- next lease has a lot, or all that is left with what the lease didn't use, and the rest of its
-- room. The release and the lease are the two events, and all else is as before.
pub record IsSwitched (old : GraphValue) (lease next : LeaseValue) (new : GraphValue) : Type 0 where
  pub worker_is : next.worker ≡ lease.worker
  pub quota : next.quota ≡ renewed_quota old lease
  pub used : next.used ≡ 0
  pub lent_incumbent : next.incumbent ≡ lesser old.incumbent lease.incumbent
  pub of_graph : IsOfGraph new next
  pub moved : (block : ℕ) → content_in next.parts block
      ≡ (if (blocks old.table).scope next.block block
      then option_or (content_in lease.parts block) (content_at old.homes block) else None)
  pub left : (block : ℕ) → content_at new.homes block
      ≡ (if (blocks old.table).scope next.block block then None
      else option_or (content_in lease.parts block) (content_at old.homes block))
  pub noted : NotesKeys lease.parts old.homes.keys new.homes.keys
  pub events : Adds old.table new.table (switch_events lease next)
  pub room : rooms new.table ≡ with_entry (rooms old.table) lease.worker
      (rooms old.table lease.worker - 2)
  pub task : new.task ≡ old.task
  pub choice : new.choice ≡ old.choice
  pub incumbent : new.incumbent ≡ lesser old.incumbent lease.incumbent

-- From each such moment of the old graph the worker goes on to one of the new graph in one move.
-- What the next lease has is recorded for it there, and it has done nothing yet: it has the rows
-- that it is lent. The move is in order if the lease has worked in turns.
abbrev pub SwitchesNext : (old : GraphValue) → (lease next : LeaseValue) → (new : GraphValue)
    → Type 0
SwitchesNext old lease next new =
    (recorded : (worker : ℕ) → Rows) (machine : Machine) → IsMomentAt old recorded machine
    → (out : IsOut (setup_in old) machine 0 lease)
    → ShowsTold old machine lease → IsKnownThen machine lease new.incumbent
    → (after : Machine) × FollowsBy old machine (switch_of lease next ∷ []) new
    (with_entry recorded lease.worker (away_rows next.parts)) after
    × (after.given next.worker ≡ next.incumbent) × IsOutInTurns (setup_in new) after 0 next
    × (after.store.incumbent ≡ brought_incumbent machine lease)
    × (after.told ≡ with_entry machine.told lease.worker None)
    × (IsInTurns (setup_in old) machine 0 lease out
    → RunsInOrder (setup_in old) machine (switch_of lease next ∷ []) after)
    × (leased_store next
    ≡ lent_store (setup_in old) next.block after.store (after.given next.worker))

-- ---- a cost that is known before its lease comes back

-- Take a moment of the old graph at which every worker can have read the cost. The new graph is
-- that moment too, with the same rows recorded.
abbrev pub LowersIncumbent : (old : GraphValue) → (cost : ℕ) → (new : GraphValue) → Type 0
LowersIncumbent old cost new =
    (recorded : (worker : ℕ) → Rows) (machine : Machine) → IsMomentAt old recorded machine
    → ((worker : ℕ) → IsTrue (machine.known worker (Some cost)))
    → IsMomentAt new recorded machine
