-- How a worker uses hot marks (the hot n-blocks of Burns, Lemons, Ruml, Zhou 2010): at most once a
-- turn, when the quota of its lease is used up. It takes no mark away; releases do.
use Rattle.std.specs.Prelude.{ℕ, ◌==◌, Bool, true, false, not, ◌&&◌, ◌||◌, if◌then◌else◌, IsSome, List, [], ◌∷◌, Option, Some, None}
use Rattle.pb_machine.specs.declared.event.Event.{Event}
use Rattle.pb_machine.specs.declared.event.Event.TheVariants.{Lease, Renew, Hot, Cold, Release, Off, Ended}

-- what a worker's own events say of its lease
pub record Turn : Type 0 where
  pub quota : ℕ  -- the lease's, as it was given or last renewed; 0 without a lease
  pub marked : Bool  -- whether the worker made a mark since then

abbrev pub no_turn : Turn
no_turn = record { quota = 0; marked = false }

abbrev pub turn_with : (quota : ℕ) → Turn
turn_with quota = record { quota = quota; marked = false }

-- whether a turn may end with so many expansions: if there was a mark, the quota is used up
abbrev pub may_end : Turn → (used : ℕ) → Bool
may_end turn used = not turn.marked || (used == turn.quota)

-- The worker's turn after its next event, or none if the event is out of turn. A second mark in one
-- turn is, and so is a mark that is taken away. A turn with a mark ends with its quota used up, and
-- without a report that memory ran out.
abbrev pub turn_then : Turn → Event → Option Turn
turn_then turn (Lease worker block quota) = Some (turn_with quota)
turn_then turn (Renew worker used quota) =
    if may_end turn used then Some (turn_with quota) else None
turn_then turn (Hot worker block) =
    if turn.marked then None else Some (record { quota = turn.quota; marked = true })
turn_then turn (Cold worker block) = None
turn_then turn (Release worker used memory) =
    if may_end turn used && not (turn.marked && memory) then Some no_turn else None
turn_then turn (Off worker memory) = Some turn
turn_then turn (Ended end) = Some turn

-- the same after all these events of one worker
abbrev pub turn_after : Option Turn → List Event → Option Turn
turn_after None events = None
turn_after (Some turn) [] = Some turn
turn_after (Some turn) (event ∷ events) = turn_after (turn_then turn event) events

-- where one worker's events lead, from before its first lease
abbrev pub turn_of : List Event → Option Turn
turn_of events = turn_after (Some no_turn) events

-- These events of one worker have its marks in turn: at most one between a lease or a renewal and
-- the next renewal or return, which uses up the quota, and none that is taken away.
abbrev pub MarksInTurn : List Event → Type 0
MarksInTurn events = IsSome (turn_of events)
