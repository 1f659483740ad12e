-- The room that the seats have is no more than the journal leaves, and each event had room when it came.
use Rattle.std.proofs.Common.{◌≡◌, ◌≤◌, ℕ, Bool, true, false, cond, ◌&&◌, is_none, List, [], ◌∷◌, ◌++◌, Option, refl, sym, ap, ◌∙◌, subst, arith, append-nil}
use Rattle.pb_machine.specs.declared.event.End.{End}
use Rattle.pb_machine.specs.declared.event.End.TheVariants.{Memory}
use Rattle.pb_machine.specs.declared.event.Event.{Event}
use Rattle.pb_machine.specs.declared.event.Event.TheVariants.{Ended}
use Rattle.pb_machine.specs.Room.{room_with, room_after, HasRoom, KeepsWithinRoom}
use Rattle.pb_machine.proofs.Callers.{room_goes_on, room_with_less, has_room_more}
use Rattle.pb_lease.specs.Events.{ending}

-- the journal keeps within room, and it leaves at least this room
abbrev pub LeavesRoom : List Event → (rooms : ℕ → ℕ) → Type 0
LeavesRoom journal rooms = KeepsWithinRoom journal × ((worker : ℕ) → rooms worker ≤ room_after journal worker)

pub event_room : (journal after : List Event) (event : Event) (old new : ℕ → ℕ) → LeavesRoom journal old → HasRoom old event → new ≡ room_with old event
    → after ≡ journal ++ event ∷ [] → LeavesRoom after new
event_room journal after event old new leaves has new_is is =
    let goes = room_goes_on journal (event ∷ []) in
    let then_is : room_with (room_after journal) event ≡ room_after after = sym goes.1 ∙ ap room_after (sym is) in (
      subst KeepsWithinRoom (sym is) (goes.0.1 (leaves.0, (has_room_more old (room_after journal) event leaves.1 has, tt))),
      λ worker. subst (λ (r : ℕ → ℕ). r worker ≤ room_after after worker) (sym new_is)
          (subst (λ (r : ℕ → ℕ). room_with old event worker ≤ r worker) then_is (room_with_less old (room_after journal) event leaves.1 worker)),
    )

-- the seats may have less
pub fewer_room : (journal : List Event) (rooms fewer : ℕ → ℕ) → LeavesRoom journal rooms → ((worker : ℕ) → fewer worker ≤ rooms worker) → LeavesRoom journal fewer
fewer_room journal rooms fewer leaves less = (leaves.0, λ worker. omega (arith, leaves.1 worker, less worker))

-- and after the end that follows from a report, where one does
pub report_room : (memory : Bool) (end : Option End) (journal after : List Event) (rooms : ℕ → ℕ) → LeavesRoom journal rooms → after ≡ journal ++ ending memory end → LeavesRoom after rooms
report_room memory end journal after rooms leaves is = subst (λ (j : List Event). LeavesRoom j rooms) (sym is) (go (memory && is_none end))
  where
    go : (r : Bool) → LeavesRoom (journal ++ cond r (Ended Memory ∷ []) []) rooms
    go true = event_room journal (journal ++ Ended Memory ∷ []) (Ended Memory) rooms rooms leaves tt refl refl
    go false = subst (λ (j : List Event). LeavesRoom j rooms) (sym (append-nil journal)) leaves
