-- Events that a call adds to the journal.
use Rattle.std.specs.Prelude.{◌≡◌, Bool, ◌&&◌, is_none, if◌then◌else◌, List, [], ◌∷◌, ◌++◌, Option, Some}
use Rattle.pb_machine.specs.declared.event.End.{End}
use Rattle.pb_machine.specs.declared.event.End.TheVariants.{Memory}
use Rattle.pb_machine.specs.declared.event.Event.{Event}
use Rattle.pb_machine.specs.declared.event.Event.TheVariants.{Ended}
use Rattle.pb_machine.specs.declared.settings.Settings.{Settings}
use Rattle.pb_machine.specs.Blocks.{Blocks}
use Rattle.pb_machine.specs.Counts.{Counts, counts_after}
use Rattle.pb_lease.specs.Tables.{Table, blocks, counts_of}

-- the counts after these events, in this order
abbrev pub counts_along : Blocks → Settings → Counts → List Event → Counts
counts_along of settings counts [] = counts
counts_along of settings counts (event ∷ events) =
    counts_along of settings (counts_after of settings counts event) events

-- Exactly these events came, and nothing else changed except rooms.
pub record Adds (old new : Table) (events : List Event) : Type 0 where
  pub counts : counts_of new ≡ counts_along (blocks old) old.settings (counts_of old) events
  pub journal : new.journal ≡ old.journal ++ events
  pub abstraction : new.abstraction ≡ old.abstraction
  pub settings : new.settings ≡ old.settings
  pub past : new.past ≡ old.past

-- the end that follows from an out-of-memory report, if the search has not ended
abbrev pub ending : (memory : Bool) → Option End → List Event
ending memory end = if memory && is_none end then Ended Memory ∷ [] else []

-- the end of the search after that
abbrev pub end_after : (memory : Bool) → Option End → Option End
end_after memory end = if memory && is_none end then Some Memory else end
