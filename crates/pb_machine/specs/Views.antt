-- What each worker's pass keeps of a journal that grows in one place. Passes are split from the
-- first one and are taken in by others. All views begin the one journal, and have their own
-- workers' events.
use Rattle.std.specs.Prelude.{◌≡◌, ℕ, ◌+◌, ◌<◌, ◌≤◌, Bool, true, false, IsTrue, IsFalse, if◌then◌else◌, ◌==◌, nat_lt, length, List, [], ◌∷◌, ◌++◌, ◌⊎◌, ⊤}
use Rattle.std.specs.List.{AllByRecursion}
use mathlib.Core.Option.{some}
use lib.ListN.{get_elem?}
use Rattle.pb_machine.specs.declared.event.Event.{Event}
use Rattle.pb_machine.specs.History.{events_of, StartsWith}

-- a worker and its events
pub record Share : Type 0 where
  pub worker : ℕ
  pub events : List Event

pub record View : Type 0 where
  pub is_live : Bool  -- its pass was not taken in by another
  pub own : Share  -- of the pass's worker
  pub seen : List Event  -- the journal when the pass, its origin, or one that it took in last held it
  pub taken_in : List Share  -- of the passes that it took in, and of those that they had taken in
  pub made : ℕ  -- in the view that has worker 0's events: how many passes were made; in any other 0

-- whether the worker is among those whose events these are
abbrev pub IsAmong : (worker : ℕ) → List Share → Type 0
IsAmong worker [] = ⊥
IsAmong worker (share ∷ shares) = (share.worker ≡ worker) ⊎ IsAmong worker shares

-- the view has the worker's events, as its own or as those of a pass that it took in
abbrev pub HasWorker : (worker : ℕ) → View → Type 0
HasWorker worker view = IsAmong worker (view.own ∷ view.taken_in)

-- the shares are of workers that differ
abbrev pub AreDistinct : List Share → Type 0
AreDistinct [] = ⊤
AreDistinct (share ∷ shares) =
    AllByRecursion (λ other. IsFalse (other.worker == share.worker)) shares × AreDistinct shares

-- the worker has these events in the journal, and all of them are in what was seen
pub record IsShareOf (journal seen : List Event) (share : Share) : Type 0 where
  pub told : events_of share.worker journal ≡ share.events
  pub covered : events_of share.worker seen ≡ share.events

-- The view at this seat is true of the journal. `seat_of` has the seat of each worker whose pass
-- was made: the seat of its own view, or of the one that took it in.
pub record IsTrueOf (journal : List Event) (made : ℕ) (seat_of : ℕ → ℕ) (seat : ℕ) (view : View) :
    Type 0 where
  pub seen : StartsWith journal view.seen
  pub shares : AllByRecursion (λ share. IsShareOf journal view.seen share × (share.worker < made)
      × (seat_of share.worker ≡ seat)) (view.own ∷ view.taken_in)
  pub distinct : AreDistinct (view.own ∷ view.taken_in)
  pub counts_passes : HasWorker 0 view → view.made ≡ made
  pub counts_none : (HasWorker 0 view → ⊥) → view.made ≡ 0

-- The views of all seats are true of the journal; spent ones say nothing. Each worker whose pass
-- was made has one seat, and no other has events. What all live views have seen together is the
-- whole journal: one of them has seen it to its end.
pub record AreTrueOf (workers : ℕ) (journal : List Event) (views : List View) : Type 0 where
  pub made : ℕ
  pub seat_of : ℕ → ℕ
  pub few : made ≤ workers
  pub each : (seat : ℕ) (view : View) → get_elem? views seat ≡ some view → IsTrue view.is_live
      → IsTrueOf journal made seat_of seat view
  pub found : (worker : ℕ) → worker < made → (view : View)
      × (get_elem? views (seat_of worker) ≡ some view) × IsTrue view.is_live
      × HasWorker worker view
  pub unmade : (worker : ℕ) → made ≤ worker → events_of worker journal ≡ []
  pub whole : (seat : ℕ) × (view : View) × (get_elem? views seat ≡ some view) × IsTrue view.is_live
      × (view.seen ≡ journal)

-- ---- how views change

-- the first pass's
abbrev pub first_view : View
first_view =
    record {
      is_live = true;
      own = record { worker = 0; events = [] };
      seen = [];
      taken_in = [];
      made = 1;
    }

-- of a pass that was taken in
abbrev pub spent_view : View
spent_view =
    record {
      is_live = false;
      own = record { worker = 0; events = [] };
      seen = [];
      taken_in = [];
      made = 0;
    }

-- the events are of this worker, or of nobody
abbrev pub AreBy : (worker : ℕ) → List Event → Type 0
AreBy worker events = (other : ℕ) → IsFalse (other == worker) → events_of other events ≡ []

-- after its pass held the journal, and these events were added
abbrev pub view_after : (journal added : List Event) → View → View
view_after journal added view =
    record view {
      own = record {
        worker = view.own.worker;
        events = view.own.events ++ events_of view.own.worker added;
      };
      seen = journal ++ added;
    }

-- after a pass was split from it, and that pass's
abbrev pub with_one_more : View → View
with_one_more view = record view { made = view.made + 1 }

abbrev pub next_view : View → View
next_view view =
    record {
      is_live = true;
      own = record { worker = view.made; events = [] };
      seen = view.seen;
      taken_in = [];
      made = 0;
    }

abbrev pub longer : (first second : List Event) → List Event
longer first second = if nat_lt (length first) (length second) then second else first

-- after its pass took in another's
abbrev pub met_view : (view other : View) → View
met_view view other =
    record view {
      seen = longer view.seen other.seen;
      taken_in = view.taken_in ++ other.own ∷ other.taken_in;
      made = view.made + other.made;
    }
