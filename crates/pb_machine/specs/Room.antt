-- How long a journal may grow. Each lease has room for so many events: this room bounds what the
-- lease may add between its start and its return.
use Rattle.std.specs.Prelude.{ℕ, ◌+◌, ◌-◌, ◌<◌, ◌≤◌, Bool, false, ◌==◌, List, [], ◌∷◌, ⊤}
use Rattle.pb_machine.specs.declared.event.Event.{Event}
use Rattle.pb_machine.specs.declared.event.Event.TheVariants.{Lease, Renew, Hot, Cold, Release, Off, Ended}
use Rattle.pb_machine.specs.Tables.{with_entry}
use Rattle.pb_machine.specs.Machine.{Move, event_move, tell_move, switch_move}

-- By worker, for how many events its lease has room after this one. A lease begins with room for 63
-- renewals, hot marks and marks taken away. Each of these takes one, and the return of the lease
-- takes what is left.
abbrev pub room_with : (room : ℕ → ℕ) → Event → ℕ → ℕ
room_with room (Lease worker block quota) = with_entry room worker 63
room_with room (Renew worker used quota) = with_entry room worker (room worker - 1)
room_with room (Hot worker block) = with_entry room worker (room worker - 1)
room_with room (Cold worker block) = with_entry room worker (room worker - 1)
room_with room (Release worker used memory) = with_entry room worker 0
room_with room (Off worker memory) = room
room_with room (Ended end) = room

-- the same after all these events
abbrev pub room_from : (room : ℕ → ℕ) → List Event → ℕ → ℕ
room_from room [] = room
room_from room (event ∷ events) = room_from (room_with room event) events

-- before the first event no worker has a lease
abbrev pub no_room : (worker : ℕ) → ℕ
no_room worker = 0

-- for how many events the worker's lease has room after the journal
abbrev pub room_after : List Event → (worker : ℕ) → ℕ
room_after journal = room_from no_room journal

-- the event may come in this room: a renewal, a hot mark, or a mark taken away needs room of its
-- worker's lease
abbrev pub HasRoom : (room : ℕ → ℕ) → Event → Type 0
HasRoom room (Renew worker used quota) = 0 < room worker
HasRoom room (Hot worker block) = 0 < room worker
HasRoom room (Cold worker block) = 0 < room worker
HasRoom room event = ⊤

-- each event has room after those before it
abbrev pub AreWithinRoom : (room : ℕ → ℕ) → List Event → Type 0
AreWithinRoom room [] = ⊤
AreWithinRoom room (event ∷ events) =
    HasRoom room event × AreWithinRoom (room_with room event) events

-- each event of the journal is within the room of its worker's lease
abbrev pub KeepsWithinRoom : (journal : List Event) → Type 0
KeepsWithinRoom journal = AreWithinRoom no_room journal

abbrev pub one_if_lease : Event → ℕ
one_if_lease (Lease worker block quota) = 1
one_if_lease event = 0

-- how many of the events are leases
abbrev pub leases_in : List Event → ℕ
leases_in [] = 0
leases_in (event ∷ events) = one_if_lease event + leases_in events

-- whether the event takes of the room of this worker's lease
abbrev pub takes_room : (worker : ℕ) → Event → Bool
takes_room worker (Renew by used quota) = by == worker
takes_room worker (Hot by block) = by == worker
takes_room worker (Cold by block) = by == worker
takes_room worker event = false

-- ---- room by moves

-- The room after a move. A switch takes two of the room of its worker's lease, for its two events.
-- The new lease has only what is left, though by its journal alone it has room for 63 events.
abbrev pub room_moved : (room : ℕ → ℕ) → Move → ℕ → ℕ
room_moved room (event_move event) = room_with room event
room_moved room (tell_move worker cost) = room
room_moved room (switch_move worker used block quota) = with_entry room worker (room worker - 2)

-- the same after all these moves
abbrev pub rooms_after : (room : ℕ → ℕ) → List Move → ℕ → ℕ
rooms_after room [] = room
rooms_after room (move ∷ moves) = rooms_after (room_moved room move) moves

-- the move may be made in this room: a switch needs room for two events
abbrev pub HasRoomMoved : (room : ℕ → ℕ) → Move → Type 0
HasRoomMoved room (event_move event) = HasRoom room event
HasRoomMoved room (tell_move worker cost) = ⊤
HasRoomMoved room (switch_move worker used block quota) = 2 ≤ room worker

-- each move has room after those before it
abbrev pub AreWithinRoomMoved : (room : ℕ → ℕ) → List Move → Type 0
AreWithinRoomMoved room [] = ⊤
AreWithinRoomMoved room (move ∷ moves) =
    HasRoomMoved room move × AreWithinRoomMoved (room_moved room move) moves
