-- The order of a search by leases, whatever the number of its workers.
use Rattle.std.specs.Prelude.{◌≡◌, ◌⊎◌, ◌<◌, ℕ, Bool, true, false, List, [], ◌∷◌, Option, Some, None, ⊤}
use Rattle.pb_model.specs.Store.{HasOpened, AtMost}
use Rattle.pb_machine.specs.declared.event.Event.TheVariants.{Lease, Renew, Hot, Cold, Release, Off, Ended}
use Rattle.pb_machine.specs.declared.event.Grant.{Grant}
use Rattle.pb_machine.specs.Choice.{IsFirstChoice, counts_with_lease_home}
use Rattle.pb_machine.specs.Room.{room_moved}
use Rattle.pb_machine.specs.Machine.{Setup, Machine, Move, event_move, tell_move, switch_move, Moves}
use Rattle.pb_machine.specs.Turns.{IsInOrder}
use Rattle.pb_lease.specs.LeaseValue.{LeaseValue, leased_store}

-- ---- a lease that comes back

-- Why a lease comes back although its worker didn't ask to go on with it: the worker reports that it
-- is out of memory, or no row of its block is Opened.
abbrev pub HasCause : LeaseValue → (memory : Bool) → Type 0
HasCause lease true = ⊤
HasCause lease false = HasOpened ((leased_store lease).rows lease.block) → ⊥

-- The work on the lease has stopped: its quota is used up, or no row of its block is Opened.
abbrev pub HasStopped : LeaseValue → Type 0
HasStopped lease =
    (lease.used ≡ lease.quota) ⊎ (HasOpened ((leased_store lease).rows lease.block) → ⊥)

-- ---- the moves of a run

-- A lease that is given, or goes on, gets at most the incumbent that the whole store had at the
-- last event. If another worker told a cost since then, the lease may have it or not.
abbrev pub GivesWholeIncumbent : Move → (settled : Option ℕ) → (new : Machine) → Type 0
GivesWholeIncumbent (event_move (Lease worker block quota)) settled new =
    AtMost (new.given worker) settled
GivesWholeIncumbent (event_move (Renew worker used quota)) settled new =
    AtMost (new.given worker) settled
GivesWholeIncumbent (switch_move worker used block quota) settled new =
    AtMost (new.given worker) settled
GivesWholeIncumbent move settled new = ⊤

-- the incumbent that the whole store had at the last event, after this move
abbrev pub settled_after : Move → (settled : Option ℕ) → (new : Machine) → Option ℕ
settled_after (event_move event) settled new = new.store.incumbent
settled_after (tell_move worker cost) settled new = settled
settled_after (switch_move worker used block quota) settled new = new.store.incumbent

-- with the lease home its block isn't the first choice
abbrev pub IsOvertaken : Setup → (old : Machine) → (worker used block : ℕ) → (new : Machine) → Type 0
IsOvertaken setup old worker used block new =
    IsFirstChoice setup.blocks setup.settings (counts_with_lease_home old.counts worker used)
    new.store block → ⊥

-- The lease can't go on: with it home its block isn't the first choice, or it has no room in the
-- journal any more.
abbrev pub CannotGoOn : Setup → (room : ℕ → ℕ) → (old : Machine) → (worker used block : ℕ)
    → (new : Machine) → Type 0
CannotGoOn setup room old worker used block new =
    IsOvertaken setup old worker used block new ⊎ (room worker ≡ 0)

-- `room` says, by worker, for how many more events its lease has room in the journal. A lease goes
-- on only if its quota is used up, and its block, with the lease home, is the first choice at that
-- moment. Other workers may have done anything meanwhile. A lease comes back only if no row of its
-- block is Opened, its worker is out of memory, or its quota is used up and it can't go on. At a
-- switch it comes back for the first or the last of these causes, and has room for two events. A
-- worker signs off with a report only if no end stands: later the report would change nothing.
abbrev pub IsTimely : Setup → (room : ℕ → ℕ) → (old : Machine) → Move → (new : Machine) → Type 0
IsTimely setup room old (event_move (Renew worker used quota)) new =
    (grant : Grant) × (old.counts.leases worker ≡ Some grant) × (used ≡ grant.quota)
    × IsFirstChoice setup.blocks setup.settings (counts_with_lease_home old.counts worker used)
    new.store grant.block
IsTimely setup room old (event_move (Release worker used false)) new =
    (grant : Grant) × (old.counts.leases worker ≡ Some grant)
    × ((HasOpened (new.store.rows grant.block) → ⊥)
    ⊎ ((used ≡ grant.quota) × CannotGoOn setup room old worker used grant.block new))
IsTimely setup room old (switch_move worker used block quota) new =
    (grant : Grant) × (old.counts.leases worker ≡ Some grant)
    × ((HasOpened (new.store.rows grant.block) → ⊥)
    ⊎ ((used ≡ grant.quota) × IsOvertaken setup old worker used grant.block new))
    × (1 < room worker)
IsTimely setup room old (event_move (Off worker true)) new = old.counts.end ≡ None
IsTimely setup room old move new = ⊤

-- ---- workers that left the order

-- whose move it is; an end is nobody's, and of an end no order is claimed
abbrev pub mover : Move → ℕ
mover (event_move (Lease worker block quota)) = worker
mover (event_move (Renew worker used quota)) = worker
mover (event_move (Hot worker block)) = worker
mover (event_move (Cold worker block)) = worker
mover (event_move (Release worker used memory)) = worker
mover (event_move (Off worker memory)) = worker
mover (event_move (Ended end)) = 0
mover (tell_move worker cost) = worker
mover (switch_move worker used block quota) = worker

-- The order of a move, whose worker keeps the order or has left it. A worker that left it takes the
-- rows of its lease in any order. The blocks that it leases are first choices all the same.
abbrev pub IsInOrderIf : (keeps : Bool) → Setup → (old : Machine) → Move → (new : Machine) → Type 0
IsInOrderIf true setup old move new = IsInOrder setup old move new
IsInOrderIf false setup old (event_move (Lease worker block quota)) new =
    IsFirstChoice setup.blocks setup.settings old.counts old.store block
IsInOrderIf false setup old (switch_move worker used block quota) new =
    IsFirstChoice setup.blocks setup.settings (counts_with_lease_home old.counts worker used)
    new.store block
IsInOrderIf false setup old move new = ⊤

-- The time of a move, whose worker keeps the order or has left it. A worker that left it brings its
-- lease back without a cause, or goes on with it before its quota is used up. The block of a lease
-- that goes on is the first choice all the same.
abbrev pub IsTimelyIf : (keeps : Bool) → Setup → (room : ℕ → ℕ) → (old : Machine) → Move
    → (new : Machine) → Type 0
IsTimelyIf true setup room old move new = IsTimely setup room old move new
IsTimelyIf false setup room old (event_move (Renew worker used quota)) new =
    (grant : Grant) × (old.counts.leases worker ≡ Some grant)
    × IsFirstChoice setup.blocks setup.settings (counts_with_lease_home old.counts worker used)
    new.store grant.block
IsTimelyIf false setup room old (event_move (Off worker true)) new = old.counts.end ≡ None
IsTimelyIf false setup room old (switch_move worker used block quota) new = 1 < room worker
IsTimelyIf false setup room old move new = ⊤

-- ---- runs

-- A run of any number of workers: these moves, one after another. No lease was given a greater
-- incumbent than that of the whole store at the last event. Each block that was leased was the first
-- choice of those that might be leased then. The moves of the workers that keep the order are in
-- order and in time. So each row that they took was the first of its block, each of their leases
-- used up its quota before it went on, and each had a cause to come back. The room at the start is
-- given; the incumbent of the last event is stated at both ends.
abbrev pub RunsSettled : Setup → (keeps : (worker : ℕ) → Bool) → (room : ℕ → ℕ) → (old : Machine)
    → (settled : Option ℕ) → List Move → (new : Machine) → (later : Option ℕ) → Type 0
RunsSettled setup keeps room old settled [] new later = (new ≡ old) × (later ≡ settled)
RunsSettled setup keeps room old settled (move ∷ moves) new later =
    (between : Machine) × Moves setup old move between
    × IsInOrderIf (keeps (mover move)) setup old move between
    × GivesWholeIncumbent move settled between
    × IsTimelyIf (keeps (mover move)) setup room old move between
    × RunsSettled setup keeps (room_moved room move) between (settled_after move settled between)
    moves new later

-- a run that begins just after an event, in this room, in order and in time for these workers
abbrev pub RunsInTimeFor : Setup → (keeps : (worker : ℕ) → Bool) → (room : ℕ → ℕ) → (old : Machine)
    → List Move → (new : Machine) → Type 0
RunsInTimeFor setup keeps room old moves new =
    (later : Option ℕ) × RunsSettled setup keeps room old old.store.incumbent moves new later

-- every worker keeps the order
abbrev pub all_keep : (worker : ℕ) → Bool
all_keep worker = true

-- a run in order and in time that begins just after an event, in this room
abbrev pub RunsInTime : Setup → (room : ℕ → ℕ) → (old : Machine) → List Move → (new : Machine)
    → Type 0
RunsInTime setup room old moves new = RunsInTimeFor setup all_keep room old moves new
