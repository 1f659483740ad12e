-- Room by moves is at most the room by their journal: a switch takes two of the room of a lease, and its journal begins another lease.
use Rattle.std.proofs.Common.{◌≡◌, ℕ, ◌-◌, ◌≤◌, ◌==◌, List, [], ◌∷◌, ◌++◌, refl, ◌∙◌, arith}
use Rattle.pb_model.proofs.Callers.{by_cases}
use Rattle.pb_machine.specs.declared.event.Event.{Event}
use Rattle.pb_machine.specs.declared.event.Event.TheVariants.{Lease, Renew, Hot, Cold, Release, Off, Ended}
use Rattle.pb_machine.specs.Tables.{with_entry}
use Rattle.pb_machine.specs.Room.{room_with, room_from, HasRoom, AreWithinRoom, room_moved, rooms_after, HasRoomMoved, AreWithinRoomMoved}
use Rattle.pb_machine.specs.Machine.{Move, event_move, tell_move, switch_move, journal_of}
use Rattle.pb_machine.proofs.TableLaws.{entry_here, entry_else}

-- no worker has more of the first room than of the second
abbrev pub IsLess : (room more : ℕ → ℕ) → Type 0
IsLess room more = (worker : ℕ) → room worker ≤ more worker

-- no lease has more room than a new one
abbrev pub IsSmall : (room : ℕ → ℕ) → Type 0
IsSmall room = (worker : ℕ) → room worker ≤ 63

entry_less : (room more : ℕ → ℕ) (by value greater : ℕ) → IsLess room more → value ≤ greater → IsLess (with_entry room by value) (with_entry more by greater)
entry_less room more by value greater less le worker = by_cases (worker == by)
    (λ here. let one = entry_here room by worker value here in let two = entry_here more by worker greater here in omega (arith, one, two, le))
    (λ else. let one = entry_else room by worker value else in let two = entry_else more by worker greater else in let rest = less worker in omega (arith, one, two, rest))

entry_small : (room : ℕ → ℕ) (by value : ℕ) → IsSmall room → value ≤ 63 → IsSmall (with_entry room by value)
entry_small room by value small le worker = by_cases (worker == by)
    (λ here. let one = entry_here room by worker value here in omega (arith, one, le))
    (λ else. let one = entry_else room by worker value else in let rest = small worker in omega (arith, one, rest))

-- ---- events

pub room_with_less : (room more : ℕ → ℕ) (e : Event) → IsLess room more → IsLess (room_with room e) (room_with more e)
room_with_less room more (Lease by block quota) less = entry_less room more by 63 63 less (omega arith)
room_with_less room more (Renew by used quota) less = let le = less by in entry_less room more by (room by - 1) (more by - 1) less (omega (arith, le))
room_with_less room more (Hot by block) less = let le = less by in entry_less room more by (room by - 1) (more by - 1) less (omega (arith, le))
room_with_less room more (Cold by block) less = let le = less by in entry_less room more by (room by - 1) (more by - 1) less (omega (arith, le))
room_with_less room more (Release by used memory) less = entry_less room more by 0 0 less (omega arith)
room_with_less room more (Off by memory) less = less
room_with_less room more (Ended end) less = less

pub room_with_small : (room : ℕ → ℕ) (e : Event) → IsSmall room → IsSmall (room_with room e)
room_with_small room (Lease by block quota) small = entry_small room by 63 small (omega arith)
room_with_small room (Renew by used quota) small = let le = small by in entry_small room by (room by - 1) small (omega (arith, le))
room_with_small room (Hot by block) small = let le = small by in entry_small room by (room by - 1) small (omega (arith, le))
room_with_small room (Cold by block) small = let le = small by in entry_small room by (room by - 1) small (omega (arith, le))
room_with_small room (Release by used memory) small = entry_small room by 0 small (omega arith)
room_with_small room (Off by memory) small = small
room_with_small room (Ended end) small = small

pub has_room_more : (room more : ℕ → ℕ) (e : Event) → IsLess room more → HasRoom room e → HasRoom more e
has_room_more room more (Lease by block quota) less has = tt
has_room_more room more (Renew by used quota) less has = let le = less by in omega (arith, le, has)
has_room_more room more (Hot by block) less has = let le = less by in omega (arith, le, has)
has_room_more room more (Cold by block) less has = let le = less by in omega (arith, le, has)
has_room_more room more (Release by used memory) less has = tt
has_room_more room more (Off by memory) less has = tt
has_room_more room more (Ended end) less has = tt

pub room_from_less : (es : List Event) (room more : ℕ → ℕ) → IsLess room more → IsLess (room_from room es) (room_from more es)
room_from_less [] room more less = less
room_from_less (e ∷ es) room more less = room_from_less es (room_with room e) (room_with more e) (room_with_less room more e less)

pub within_room_more : (es : List Event) (room more : ℕ → ℕ) → IsLess room more → AreWithinRoom room es → AreWithinRoom more es
within_room_more [] room more less within = tt
within_room_more (e ∷ es) room more less within = (has_room_more room more e less within.0, within_room_more es (room_with room e) (room_with more e) (room_with_less room more e less) within.1)

-- ---- moves

pub room_moved_small : (room : ℕ → ℕ) (move : Move) → IsSmall room → IsSmall (room_moved room move)
room_moved_small room (event_move e) small = room_with_small room e small
room_moved_small room (tell_move by cost) small = small
room_moved_small room (switch_move by used block quota) small = let le = small by in entry_small room by (room by - 2) small (omega (arith, le))

pub room_moved_less : (room more : ℕ → ℕ) (move : Move) → IsLess room more → IsSmall room → IsLess (room_moved room move) (room_from more (journal_of (move ∷ [])))
room_moved_less room more (event_move e) less small = room_with_less room more e less
room_moved_less room more (tell_move by cost) less small = less
room_moved_less room more (switch_move by used block quota) less small = λ worker. by_cases (worker == by)
    (λ here.
    let one = entry_here room by worker (room by - 2) here in
    let two = entry_here (with_entry more by 0) by worker 63 here in
    let le = small by in
    omega (arith, one, two, le))
    (λ else.
    let one = entry_else room by worker (room by - 2) else in
    let two = entry_else (with_entry more by 0) by worker 63 else ∙ entry_else more by worker 0 else in
    let rest = less worker in
    omega (arith, one, two, rest))

pub has_room_moved : (room more : ℕ → ℕ) (move : Move) → IsLess room more → HasRoomMoved room move → AreWithinRoom more (journal_of (move ∷ []))
has_room_moved room more (event_move e) less has = (has_room_more room more e less has, tt)
has_room_moved room more (tell_move by cost) less has = tt
has_room_moved room more (switch_move by used block quota) less has = (tt, (tt, tt))

pub rooms_after_small : (moves : List Move) (room : ℕ → ℕ) → IsSmall room → IsSmall (rooms_after room moves)
rooms_after_small [] room small = small
rooms_after_small (move ∷ moves) room small = rooms_after_small moves (room_moved room move) (room_moved_small room move small)

-- room by moves is at most the room by the journal
pub rooms_after_less : (moves : List Move) (room more : ℕ → ℕ) → IsLess room more → IsSmall room → IsLess (rooms_after room moves) (room_from more (journal_of moves))
rooms_after_less [] room more less small = less
rooms_after_less (event_move e ∷ moves) room more less small =
    rooms_after_less moves (room_with room e) (room_with more e) (room_with_less room more e less) (room_with_small room e small)
rooms_after_less (tell_move by cost ∷ moves) room more less small = rooms_after_less moves room more less small
rooms_after_less (switch_move by used block quota ∷ moves) room more less small =
    rooms_after_less moves (room_moved room (switch_move by used block quota)) (with_entry (with_entry more by 0) by 63)
    (room_moved_less room more (switch_move by used block quota) less small) (room_moved_small room (switch_move by used block quota) small)

-- moves within room have a journal within room
pub moves_keep_room : (moves : List Move) (room more : ℕ → ℕ) → IsLess room more → IsSmall room → AreWithinRoomMoved room moves → AreWithinRoom more (journal_of moves)
moves_keep_room [] room more less small within = tt
moves_keep_room (event_move e ∷ moves) room more less small within =
    (has_room_more room more e less within.0, moves_keep_room moves (room_with room e) (room_with more e) (room_with_less room more e less) (room_with_small room e small) within.1)
moves_keep_room (tell_move by cost ∷ moves) room more less small within = moves_keep_room moves room more less small within.1
moves_keep_room (switch_move by used block quota ∷ moves) room more less small within = (
  tt,
  (
    tt,
    moves_keep_room moves (room_moved room (switch_move by used block quota)) (with_entry (with_entry more by 0) by 63)
        (room_moved_less room more (switch_move by used block quota) less small) (room_moved_small room (switch_move by used block quota) small) within.1,
  ),
)

-- ---- more moves

pub rooms_after_both : (moves more : List Move) (room : ℕ → ℕ) → rooms_after room (moves ++ more) ≡ rooms_after (rooms_after room moves) more
rooms_after_both [] more room = refl
rooms_after_both (move ∷ moves) more room = rooms_after_both moves more (room_moved room move)

pub moved_within_both : (moves more : List Move) (room : ℕ → ℕ) → AreWithinRoomMoved room moves → AreWithinRoomMoved (rooms_after room moves) more → AreWithinRoomMoved room (moves ++ more)
moved_within_both [] more room first later = later
moved_within_both (move ∷ moves) more room first later = (first.0, moved_within_both moves more (room_moved room move) first.1 later)
