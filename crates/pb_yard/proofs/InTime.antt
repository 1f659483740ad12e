-- Runs in order and in time: one after another, and of single events.
use Rattle.std.proofs.Common.{◌≡◌, ℕ, Bool, true, false, cond, ◌&&◌, is_none, Option, None, Some, List, [], ◌∷◌, ◌++◌, refl, sym, ap, ◌∙◌, subst, true≢false}
use Rattle.pb_model.specs.Store.{Store, lesser, AtMost}
use Rattle.pb_model.proofs.Callers.{at_most_self, at_most_trans, lesser_at_most}
use Rattle.pb_machine.specs.declared.event.End.{End}
use Rattle.pb_machine.specs.declared.event.End.TheVariants.{Memory}
use Rattle.pb_machine.specs.declared.event.Event.{Event}
use Rattle.pb_machine.specs.declared.event.Event.TheVariants.{Lease, Renew, Hot, Cold, Release, Off, Ended}
use Rattle.pb_machine.specs.Room.{room_with, room_moved, rooms_after}
use Rattle.pb_machine.specs.Machine.{Setup, Machine, Move, event_move, tell_move, switch_move, journal_of, Runs}
use Rattle.pb_machine.specs.Turns.{IsInOrder, RunsInOrder}
use Rattle.pb_lease.specs.Events.{ending}
use Rattle.pb_lease.specs.Moments.{moves_of}
use Rattle.pb_lease.specs.Steps.{end_events}
use Rattle.pb_yard.specs.Order.{GivesWholeIncumbent, settled_after, IsTimely, mover, IsInOrderIf, IsTimelyIf, RunsSettled, all_keep, RunsInTime}
use Rattle.pb_yard.specs.Laws.{RunsInTimeAreInOrder}

-- the events of moves that are events
pub events_of_moves : (events : List Event) → journal_of (moves_of events) ≡ events
events_of_moves [] = refl
events_of_moves (event ∷ events) = ap (λ l. event ∷ l) (events_of_moves events)

-- the room after moves and others
pub rooms_on : (room : ℕ → ℕ) (moves more : List Move) → rooms_after room (moves ++ more) ≡ rooms_after (rooms_after room moves) more
rooms_on room [] more = refl
rooms_on room (move ∷ moves) more = rooms_on (room_moved room move) moves more

module _ (setup : Setup) where
  settled_is_in_order : (room : ℕ → ℕ) (moves : List Move) (old : Machine) (settled : Option ℕ) (new : Machine) (later : Option ℕ) → RunsSettled setup all_keep room old settled moves new later → RunsInOrder setup old moves new
  settled_is_in_order room [] old settled new later runs = runs.0
  settled_is_in_order room (move ∷ moves) old settled new later runs = (runs.0, runs.1, runs.2, settled_is_in_order (room_moved room move) moves runs.0 (settled_after move settled runs.0) new later runs.5)

  -- runs for the same workers
  module _ (keeps : ℕ → Bool) where
    pub settled_is_run : (room : ℕ → ℕ) (moves : List Move) (old : Machine) (settled : Option ℕ) (new : Machine) (later : Option ℕ) → RunsSettled setup keeps room old settled moves new later → Runs setup old moves new
    settled_is_run room [] old settled new later runs = runs.0
    settled_is_run room (move ∷ moves) old settled new later runs = (runs.0, runs.1, settled_is_run (room_moved room move) moves runs.0 (settled_after move settled runs.0) new later runs.5)

    pub settled_on : (room : ℕ → ℕ) (moves more : List Move) (old between new : Machine) (first second third : Option ℕ) → RunsSettled setup keeps room old first moves between second → RunsSettled setup keeps (rooms_after room moves) between second more new third
        → RunsSettled setup keeps room old first (moves ++ more) new third
    settled_on room [] more old between new first second third run rest =
        subst (λ (q : Machine). RunsSettled setup keeps room q first more new third) run.0 (subst (λ o. RunsSettled setup keeps room between o more new third) run.1 rest)
    settled_on room (move ∷ moves) more old between new first second third run rest =
        (run.0, run.1, run.2, run.3, run.4, settled_on (room_moved room move) moves more run.0 between new (settled_after move first run.0) second third run.5 rest)

    -- the incumbent falls from that of the last event
    pub settled_falls : (room : ℕ → ℕ) (moves : List Move) (old : Machine) (settled : Option ℕ) (new : Machine) (later : Option ℕ) → AtMost old.store.incumbent settled → RunsSettled setup keeps room old settled moves new later
        → AtMost new.store.incumbent later
    settled_falls room [] old settled new later most runs = subst (λ (q : Machine). AtMost q.store.incumbent later) (sym runs.0) (subst (λ o. AtMost old.store.incumbent o) (sym runs.1) most)
    settled_falls room (event_move event ∷ moves) old settled new later most runs = settled_falls (room_with room event) moves runs.0 runs.0.store.incumbent new later (at_most_self runs.0.store.incumbent) runs.5
    settled_falls room (switch_move worker used block quota ∷ moves) old settled new later most runs =
        settled_falls (room_moved room (switch_move worker used block quota)) moves runs.0 runs.0.store.incumbent new later (at_most_self runs.0.store.incumbent) runs.5
    settled_falls room (tell_move worker cost ∷ moves) old settled new later most runs =
        settled_falls room moves runs.0 settled new later
        (subst (λ (s : Store). AtMost s.incumbent settled) (sym runs.1.store) (at_most_trans (lesser old.store.incumbent (Some cost)) old.store.incumbent settled (lesser_at_most old.store.incumbent (Some cost)) most)) runs.5

  -- ---- fewer workers that keep the order

  order_free : (move : Move) (old new : Machine) → IsInOrder setup old move new → IsInOrderIf false setup old move new
  order_free (event_move (Lease worker block quota)) old new h = h
  order_free (event_move (Renew worker used quota)) old new h = tt
  order_free (event_move (Hot worker block)) old new h = tt
  order_free (event_move (Cold worker block)) old new h = tt
  order_free (event_move (Release worker used memory)) old new h = tt
  order_free (event_move (Off worker memory)) old new h = tt
  order_free (event_move (Ended end)) old new h = tt
  order_free (tell_move worker cost) old new h = tt
  order_free (switch_move worker used block quota) old new h = h.1

  time_free : (room : ℕ → ℕ) (move : Move) (old new : Machine) → IsTimely setup room old move new → IsTimelyIf false setup room old move new
  time_free room (event_move (Lease worker block quota)) old new h = tt
  time_free room (event_move (Renew worker used quota)) old new h = (h.0, h.1, h.3)
  time_free room (event_move (Hot worker block)) old new h = tt
  time_free room (event_move (Cold worker block)) old new h = tt
  time_free room (event_move (Release worker used memory)) old new h = tt
  time_free room (event_move (Off worker true)) old new h = h
  time_free room (event_move (Off worker false)) old new h = tt
  time_free room (event_move (Ended end)) old new h = tt
  time_free room (tell_move worker cost) old new h = tt
  time_free room (switch_move worker used block quota) old new h = h.3

  order_if : (first second : Bool) → (second ≡ true → first ≡ true) → (move : Move) (old new : Machine) → IsInOrderIf first setup old move new → IsInOrderIf second setup old move new
  order_if true true less move old new h = h
  order_if true false less move old new h = order_free move old new h
  order_if false true less move old new h = absurd (true≢false (sym (less refl)))
  order_if false false less move old new h = h

  time_if : (first second : Bool) → (second ≡ true → first ≡ true) → (room : ℕ → ℕ) (move : Move) (old new : Machine) → IsTimelyIf first setup room old move new → IsTimelyIf second setup room old move new
  time_if true true less room move old new h = h
  time_if true false less room move old new h = time_free room move old new h
  time_if false true less room move old new h = absurd (true≢false (sym (less refl)))
  time_if false false less room move old new h = h

  -- a run for some workers is one for fewer
  pub settled_fewer : (first second : ℕ → Bool) → ((worker : ℕ) → second worker ≡ true → first worker ≡ true) → (room : ℕ → ℕ) (moves : List Move) (old : Machine) (settled : Option ℕ) (new : Machine) (later : Option ℕ)
      → RunsSettled setup first room old settled moves new later → RunsSettled setup second room old settled moves new later
  settled_fewer first second less room [] old settled new later runs = runs
  settled_fewer first second less room (move ∷ moves) old settled new later runs = (
    runs.0,
    runs.1,
    order_if (first (mover move)) (second (mover move)) (less (mover move)) move old runs.0 runs.2,
    runs.3,
    time_if (first (mover move)) (second (mover move)) (less (mover move)) room move old runs.0 runs.4,
    settled_fewer first second less (room_moved room move) moves runs.0 (settled_after move settled runs.0) new later runs.5,
  )

  -- a run in order and in time is one for any workers
  pub settled_any : (keeps : ℕ → Bool) (room : ℕ → ℕ) (moves : List Move) (old : Machine) (settled : Option ℕ) (new : Machine) (later : Option ℕ) → RunsSettled setup all_keep room old settled moves new later
      → RunsSettled setup keeps room old settled moves new later
  settled_any keeps room moves old settled new later runs = settled_fewer all_keep keeps (λ worker e. refl) room moves old settled new later runs

  -- one move of a worker that left the order
  pub settled_free : (keeps : ℕ → Bool) (room : ℕ → ℕ) (move : Move) (old : Machine) (settled : Option ℕ) (new : Machine) → keeps (mover move) ≡ false → IsInOrderIf false setup old move new → GivesWholeIncumbent move settled new
      → IsTimelyIf false setup room old move new → Runs setup old (move ∷ []) new → RunsSettled setup keeps room old settled (move ∷ []) new (settled_after move settled new)
  settled_free keeps room move old settled new free order gives timely runs = (
    runs.0,
    runs.1,
    subst (λ b. IsInOrderIf b setup old move runs.0) (sym free) (subst (λ (m : Machine). IsInOrderIf false setup old move m) runs.2 order),
    subst (λ (m : Machine). GivesWholeIncumbent move settled m) runs.2 gives,
    subst (λ b. IsTimelyIf b setup room old move runs.0) (sym free) (subst (λ (m : Machine). IsTimelyIf false setup room old move m) runs.2 timely),
    (runs.2, ap (λ (m : Machine). settled_after move settled m) runs.2),
  )

  -- an end is in order and in time, whoever keeps the order
  end_order : (keeps : Bool) (end : End) (old new : Machine) → IsInOrderIf keeps setup old (event_move (Ended end)) new
  end_order true end old new = tt
  end_order false end old new = tt

  end_time : (keeps : Bool) (room : ℕ → ℕ) (end : End) (old new : Machine) → IsTimelyIf keeps setup room old (event_move (Ended end)) new
  end_time true room end old new = tt
  end_time false room end old new = tt

  -- the return of a lease by a worker that left the order, and the end that may follow it
  pub free_release : (room : ℕ → ℕ) (worker used : ℕ) (memory : Bool) (end : Option End) (old : Machine) (settled : Option ℕ) (new : Machine) → Runs setup old (moves_of (Release worker used memory ∷ ending memory end)) new
      → (later : Option ℕ) × ((keeps : ℕ → Bool) → keeps worker ≡ false → RunsSettled setup keeps room old settled (moves_of (Release worker used memory ∷ ending memory end)) new later)
  free_release room worker used memory end old settled new runs = go (memory && is_none end) runs
    where
      go : (r : Bool) → Runs setup old (moves_of (Release worker used memory ∷ cond r (Ended Memory ∷ []) [])) new → (later : Option ℕ) × ((keeps : ℕ → Bool) → keeps worker ≡ false → RunsSettled setup keeps room old settled (moves_of (Release worker used memory ∷ cond r (Ended Memory ∷ []) [])) new later)
      go false runs = (new.store.incumbent, λ keeps free. settled_free keeps room (event_move (Release worker used memory)) old settled new free tt tt tt runs)
      go true runs = (
        runs.2.0.store.incumbent,
        λ keeps free. (
          runs.0,
          runs.1,
          subst (λ b. IsInOrderIf b setup old (event_move (Release worker used memory)) runs.0) (sym free) tt,
          tt,
          subst (λ b. IsTimelyIf b setup room old (event_move (Release worker used memory)) runs.0) (sym free) tt,
          (
            runs.2.0,
            runs.2.1,
            end_order (keeps 0) Memory runs.0 runs.2.0,
            tt,
            end_time (keeps 0) (room_with room (Release worker used memory)) Memory runs.0 runs.2.0,
            (runs.2.2, refl),
          ),
        ),
      )

  -- ---- runs for all workers

  -- a run from a lesser incumbent of the last event is one from a greater
  raised : (room : ℕ → ℕ) (moves : List Move) (old : Machine) (settled other : Option ℕ) (new : Machine) (later : Option ℕ) → AtMost settled other → RunsSettled setup all_keep room old settled moves new later
      → (then : Option ℕ) × RunsSettled setup all_keep room old other moves new then
  raised room [] old settled other new later most runs = (other, (runs.0, refl))
  raised room (event_move event ∷ moves) old settled other new later most runs = (later, (runs.0, runs.1, runs.2, gives event runs.0 runs.3, runs.4, runs.5))
    where
      gives : (event : Event) (between : Machine) → GivesWholeIncumbent (event_move event) settled between → GivesWholeIncumbent (event_move event) other between
      gives (Lease worker block quota) between h = at_most_trans (between.given worker) settled other h most
      gives (Renew worker used quota) between h = at_most_trans (between.given worker) settled other h most
      gives (Hot worker block) between h = tt
      gives (Cold worker block) between h = tt
      gives (Release worker used memory) between h = tt
      gives (Off worker memory) between h = tt
      gives (Ended end) between h = tt
  raised room (tell_move worker cost ∷ moves) old settled other new later most runs =
      let rest = raised room moves runs.0 settled other new later most runs.5 in (rest.0, (runs.0, runs.1, runs.2, tt, runs.4, rest.1))
  raised room (switch_move worker used block quota ∷ moves) old settled other new later most runs =
      (later, (runs.0, runs.1, runs.2, at_most_trans (runs.0.given worker) settled other runs.3 most, runs.4, runs.5))

  pub in_time_is_run : (room : ℕ → ℕ) (moves : List Move) (old new : Machine) → RunsInTime setup room old moves new → Runs setup old moves new
  in_time_is_run room moves old new runs = settled_is_run all_keep room moves old old.store.incumbent new runs.0 runs.1

  pub in_time_on : (room : ℕ → ℕ) (moves more : List Move) (old between new : Machine) → RunsInTime setup room old moves between → RunsInTime setup (rooms_after room moves) between more new → RunsInTime setup room old (moves ++ more) new
  in_time_on room moves more old between new first later =
      let fall = settled_falls all_keep room moves old old.store.incumbent between first.0 (at_most_self old.store.incumbent) first.1 in
      let rest = raised (rooms_after room moves) more between between.store.incumbent first.0 new later.0 fall later.1 in
      (rest.0, settled_on all_keep room moves more old between new old.store.incumbent first.0 rest.0 first.1 rest.1)

  -- one event, from any incumbent of the last one
  pub settled_one : (room : ℕ → ℕ) (event : Event) (old : Machine) (settled : Option ℕ) (new : Machine) → GivesWholeIncumbent (event_move event) settled new → IsTimely setup room old (event_move event) new
      → RunsInOrder setup old (event_move event ∷ []) new → RunsSettled setup all_keep room old settled (event_move event ∷ []) new new.store.incumbent
  settled_one room event old settled new gives timely runs = (
    runs.0,
    runs.1,
    runs.2,
    subst (λ (m : Machine). GivesWholeIncumbent (event_move event) settled m) runs.3 gives,
    subst (λ (m : Machine). IsTimely setup room old (event_move event) m) runs.3 timely,
    (runs.3, ap (λ (m : Machine). m.store.incumbent) runs.3),
  )

  -- one switch
  pub settled_switch : (room : ℕ → ℕ) (worker used block quota : ℕ) (old : Machine) (settled : Option ℕ) (new : Machine) → GivesWholeIncumbent (switch_move worker used block quota) settled new → IsTimely setup room old (switch_move worker used block quota) new
      → RunsInOrder setup old (switch_move worker used block quota ∷ []) new → RunsSettled setup all_keep room old settled (switch_move worker used block quota ∷ []) new new.store.incumbent
  settled_switch room worker used block quota old settled new gives timely runs = (
    runs.0,
    runs.1,
    runs.2,
    subst (λ (m : Machine). GivesWholeIncumbent (switch_move worker used block quota) settled m) runs.3 gives,
    subst (λ (m : Machine). IsTimely setup room old (switch_move worker used block quota) m) runs.3 timely,
    (runs.3, ap (λ (m : Machine). m.store.incumbent) runs.3),
  )

  -- a lease that is given, or goes on, is given the incumbent that the whole store has
  abbrev pub GivesNow : Event → (new : Machine) → Type 0
  GivesNow (Lease worker block quota) new = new.given worker ≡ new.store.incumbent
  GivesNow (Renew worker used quota) new = new.given worker ≡ new.store.incumbent
  GivesNow event new = Unit {0}

  -- so it is given at most the one that the store had before
  gives_settled : (event : Event) (old new : Machine) → RunsInOrder setup old (event_move event ∷ []) new → GivesNow event new → GivesWholeIncumbent (event_move event) old.store.incumbent new
  gives_settled (Lease worker block quota) old new runs now =
      let same : new.store ≡ old.store = ap (λ (m : Machine). m.store) runs.3 ∙ runs.1.rows.1 in
      subst (λ o. AtMost o old.store.incumbent) (sym (now ∙ ap (λ (s : Store). s.incumbent) same)) (at_most_self old.store.incumbent)
  gives_settled (Renew worker used quota) old new runs now =
      let back = runs.1.rows.0 in
      let same : new.store.incumbent ≡ lesser old.store.incumbent back.worked.incumbent = ap (λ (m : Machine). m.store.incumbent) runs.3 ∙ ap (λ (s : Store). s.incumbent) back.back in
      subst (λ o. AtMost o old.store.incumbent) (sym (now ∙ same)) (lesser_at_most old.store.incumbent back.worked.incumbent)
  gives_settled (Hot worker block) old new runs now = tt
  gives_settled (Cold worker block) old new runs now = tt
  gives_settled (Release worker used memory) old new runs now = tt
  gives_settled (Off worker memory) old new runs now = tt
  gives_settled (Ended end) old new runs now = tt

  -- one event
  pub in_time_one : (room : ℕ → ℕ) (event : Event) (old new : Machine) → GivesNow event new → IsTimely setup room old (event_move event) new
      → RunsInOrder setup old (event_move event ∷ []) new → RunsInTime setup room old (event_move event ∷ []) new
  in_time_one room event old new gives timely runs = (new.store.incumbent, settled_one room event old old.store.incumbent new (gives_settled event old new runs gives) timely runs)

pub runs_in_time_are_in_order : RunsInTimeAreInOrder
runs_in_time_are_in_order setup room moves old new runs = (settled_is_in_order setup room moves old old.store.incumbent new runs.0 runs.1, in_time_is_run setup room moves old new runs)

-- among these events no lease is given, none goes on, none comes back but out of memory, and nobody signs off with a report
abbrev pub GrantsNone : List Event → Type 0
GrantsNone [] = Unit {0}
GrantsNone (Lease worker block quota ∷ events) = ⊥
GrantsNone (Renew worker used quota ∷ events) = ⊥
GrantsNone (Release worker used false ∷ events) = ⊥
GrantsNone (Off worker true ∷ events) = ⊥
GrantsNone (event ∷ events) = GrantsNone events

pub settled_events : (setup : Setup) (room : ℕ → ℕ) (events : List Event) (old : Machine) (settled : Option ℕ) (new : Machine) → GrantsNone events → RunsInOrder setup old (moves_of events) new
    → (later : Option ℕ) × RunsSettled setup all_keep room old settled (moves_of events) new later
settled_events setup room [] old settled new none runs = (settled, (runs, refl))
settled_events setup room (Lease worker block quota ∷ events) old settled new none runs = absurd none
settled_events setup room (Renew worker used quota ∷ events) old settled new none runs = absurd none
settled_events setup room (Hot worker block ∷ events) old settled new none runs =
    let rest = settled_events setup (room_with room (Hot worker block)) events runs.0 runs.0.store.incumbent new none runs.3 in (rest.0, (runs.0, runs.1, runs.2, tt, tt, rest.1))
settled_events setup room (Cold worker block ∷ events) old settled new none runs =
    let rest = settled_events setup (room_with room (Cold worker block)) events runs.0 runs.0.store.incumbent new none runs.3 in (rest.0, (runs.0, runs.1, runs.2, tt, tt, rest.1))
settled_events setup room (Release worker used false ∷ events) old settled new none runs = absurd none
settled_events setup room (Release worker used true ∷ events) old settled new none runs =
    let rest = settled_events setup (room_with room (Release worker used true)) events runs.0 runs.0.store.incumbent new none runs.3 in (rest.0, (runs.0, runs.1, runs.2, tt, tt, rest.1))
settled_events setup room (Off worker true ∷ events) old settled new none runs = absurd none
settled_events setup room (Off worker false ∷ events) old settled new none runs =
    let rest = settled_events setup room events runs.0 runs.0.store.incumbent new none runs.3 in (rest.0, (runs.0, runs.1, runs.2, tt, tt, rest.1))
settled_events setup room (Ended end ∷ events) old settled new none runs =
    let rest = settled_events setup room events runs.0 runs.0.store.incumbent new none runs.3 in (rest.0, (runs.0, runs.1, runs.2, tt, tt, rest.1))

pub in_time_events : (setup : Setup) (room : ℕ → ℕ) (events : List Event) (old new : Machine) → GrantsNone events → RunsInOrder setup old (moves_of events) new → RunsInTime setup room old (moves_of events) new
in_time_events setup room events old new none runs = settled_events setup room events old old.store.incumbent new none runs

-- the same for a sign-off with a report before any end, and what follows from it
pub settled_report : (setup : Setup) (room : ℕ → ℕ) (worker : ℕ) (events : List Event) (old : Machine) (settled : Option ℕ) (new : Machine) → old.counts.end ≡ None → GrantsNone events
    → RunsInOrder setup old (moves_of (Off worker true ∷ events)) new → (later : Option ℕ) × RunsSettled setup all_keep room old settled (moves_of (Off worker true ∷ events)) new later
settled_report setup room worker events old settled new free none runs =
    let rest = settled_events setup room events runs.0 runs.0.store.incumbent new none runs.3 in (rest.0, (runs.0, runs.1, runs.2, tt, free, rest.1))

pub ending_grants_none : (memory : Bool) (end : Option End) → GrantsNone (ending memory end)
ending_grants_none memory end = go (memory && is_none end)
  where
    go : (r : Bool) → GrantsNone (cond r (Ended Memory ∷ []) [])
    go true = tt
    go false = tt

pub end_grants_none : (standing : Option End) (end : End) → GrantsNone (end_events standing end)
end_grants_none None end = tt
end_grants_none (Some standing) end = tt

-- an end takes no room
pub ending_rooms : (room : ℕ → ℕ) (memory : Bool) (end : Option End) → rooms_after room (moves_of (ending memory end)) ≡ room
ending_rooms room memory end = go (memory && is_none end)
  where
    go : (r : Bool) → rooms_after room (moves_of (cond r (Ended Memory ∷ []) [])) ≡ room
    go true = refl
    go false = refl

pub end_rooms : (room : ℕ → ℕ) (standing : Option End) (end : End) → rooms_after room (moves_of (end_events standing end)) ≡ room
end_rooms room None end = refl
end_rooms room (Some standing) end = refl

-- some events are not none
pub some_events : (event : Event) (events : List Event) → event ∷ events ≡ [] → ⊥
some_events event events e = cc

-- without an event the incumbent of the last one stays
pub settled_same : (setup : Setup) (keeps : ℕ → Bool) (room : ℕ → ℕ) (events : List Event) (old : Machine) (settled : Option ℕ) (new : Machine) (later : Option ℕ) → RunsSettled setup keeps room old settled (moves_of events) new later → events ≡ [] → later ≡ settled
settled_same setup keeps room [] old settled new later runs none = runs.1
settled_same setup keeps room (event ∷ events) old settled new later runs none = absurd (some_events event events none)
