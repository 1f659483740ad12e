-- Journals of events, as histories of the lease machine.
use Rattle.std.specs.Prelude.{◌≡◌, ℕ, ◌+◌, ◌<◌, ◌≤◌, length, Bool, true, false, IsTrue, IsSome, if◌then◌else◌, ◌==◌, is_none, List, [], ◌∷◌, ◌++◌, filter, Option, Some, None}
use Rattle.pb_machine.specs.declared.event.End.{End}
use Rattle.pb_machine.specs.declared.event.Event.{Event}
use Rattle.pb_machine.specs.declared.event.Event.TheVariants.{Lease, Renew, Hot, Cold, Release, Off, Ended}
use Rattle.pb_machine.specs.declared.event.EventRefusal.{EventRefusal}
use Rattle.pb_machine.specs.declared.settings.Settings.{Settings}
use Rattle.pb_machine.specs.Settings.{AreInRange}
use Rattle.pb_machine.specs.Blocks.{Blocks}
use Rattle.pb_machine.specs.Counts.{Counts, opening_counts, counts_after}
use Rattle.pb_machine.specs.Legality.{refusal}

-- the counts after these events, or none if one of them may not come after those before it
abbrev pub replay : Blocks → Settings → Counts → List Event → Option Counts
replay blocks settings counts [] = Some counts
replay blocks settings counts (event ∷ events) =
    if is_none (refusal blocks settings counts event)
    then replay blocks settings (counts_after blocks settings counts event) events else None

-- A legal history of a run whose settings are in range, which leads to these counts. Runs before it
-- on the same rows spent this much of the budget: 0 for a first run.
pub record IsHistory (blocks : Blocks) (settings : Settings) (before : ℕ) (journal : List Event)
    (counts : Counts) : Type 0 where
  pub range : AreInRange settings
  pub enough : before ≤ settings.budget
  pub replays : replay blocks settings (opening_counts settings before) journal ≡ Some counts

-- the first event of the journal that may not come, with the number of events before it, and why
pub record IsFirstRefused (blocks : Blocks) (settings : Settings) (counts : Counts)
    (journal : List Event) (place : ℕ) (why : EventRefusal) : Type 0 where
  pub start : List Event
  pub event : Event
  pub rest : List Event
  pub between : Counts
  pub parts : journal ≡ start ++ event ∷ rest
  pub place_is : length start ≡ place
  pub replays : replay blocks settings counts start ≡ Some between
  pub refused : refusal blocks settings between event ≡ Some why

-- what refuses the event on this line, or else a later one
abbrev pub or_refused : (line : ℕ) → Option EventRefusal → Option (ℕ × EventRefusal)
    → Option (ℕ × EventRefusal)
or_refused line None later = later
or_refused line (Some why) later = Some (line, why)

-- the line of the first event that may not come after those before it, and why, if the journal's
-- first event is on this line; or none
abbrev pub first_refused : Blocks → Settings → Counts → (line : ℕ) → List Event
    → Option (ℕ × EventRefusal)
first_refused blocks settings counts line [] = None
first_refused blocks settings counts line (event ∷ events) =
    or_refused line (refusal blocks settings counts event)
    (first_refused blocks settings (counts_after blocks settings counts event) (line + 1) events)

-- the search has ended, and every worker has signed off
pub record AreFinished (settings : Settings) (counts : Counts) : Type 0 where
  pub end : IsSome counts.end
  pub signed_off : (worker : ℕ) → worker < settings.workers → IsTrue (counts.signed_off worker)

-- whether the event is one of this worker's; an end is nobody's
abbrev pub is_event_of : (worker : ℕ) → Event → Bool
is_event_of worker (Lease by block quota) = by == worker
is_event_of worker (Renew by used quota) = by == worker
is_event_of worker (Hot by block) = by == worker
is_event_of worker (Cold by block) = by == worker
is_event_of worker (Release by used memory) = by == worker
is_event_of worker (Off by memory) = by == worker
is_event_of worker (Ended end) = false

-- the events of this worker
abbrev pub events_of : (worker : ℕ) → List Event → List Event
events_of worker journal = filter (is_event_of worker) journal

-- whether the event is a signing off
abbrev pub is_off : Event → Bool
is_off (Off by memory) = true
is_off event = false

-- whether the event reports that memory ran out
abbrev pub is_report : Event → Bool
is_report (Release by used memory) = memory
is_report (Off by memory) = memory
is_report event = false

-- the end that the journal has, which is its first one, or none
abbrev pub end_in : List Event → Option End
end_in [] = None
end_in (Ended end ∷ events) = Some end
end_in (event ∷ events) = end_in events

-- the expansions that the event settles
abbrev pub used_of : Event → ℕ
used_of (Renew by used quota) = used
used_of (Release by used memory) = used
used_of event = 0

-- the expansions that all these events settle
abbrev pub used_in : List Event → ℕ
used_in [] = 0
used_in (event ∷ events) = used_of event + used_in events

-- the journal begins with these events
abbrev pub StartsWith : List Event → (start : List Event) → Type 0
StartsWith journal start = (rest : List Event) × (journal ≡ start ++ rest)
