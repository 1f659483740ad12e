-- The counts that a replay keeps in lists.
use Rattle.std.specs.Prelude.{◌≡◌, ℕ, Bool, false, List, length, Option, None, get_or}
use Rattle.pb_machine.specs.declared.event.Event.{Event}
use Rattle.pb_machine.specs.declared.event.Grant.{Grant}
use Rattle.pb_machine.specs.declared.event.EventRefusal.{EventRefusal}
use Rattle.pb_machine.specs.declared.settings.Settings.{Settings}
use Rattle.pb_machine.specs.Blocks.{Blocks}
use Rattle.pb_machine.specs.Settings.{AreInRange}
use Rattle.pb_machine.specs.Counts.{Counts, AreLawful, counts_after, is_busy}
use Rattle.pb_machine.specs.Legality.{tests, first_true}
use Rattle.pb_journal.specs.declared.replay.Replay.{Replay}

abbrev pub counts_of : Replay → Counts
counts_of replay =
    record {
      leases = λ worker. get_or replay.leases.items worker None;
      hot = λ block. get_or replay.hot.items block false;
      signed_off = λ worker. get_or replay.signed_off.items worker false;
      spent = replay.spent;
      left = replay.left;
      end = replay.end;
      trouble = replay.trouble;
    }

-- there is a place for each worker and for each block
pub record HasPlaces (blocks : Blocks) (settings : Settings) (replay : Replay) : Type 0 where
  pub leases : length replay.leases.items ≡ settings.workers
  pub signed_off : length replay.signed_off.items ≡ settings.workers
  pub hot : length replay.hot.items ≡ blocks.count

-- there is a place for each worker and each block, the settings are in range, and the counts are
-- those of a legal history
pub record IsLawfulReplay (blocks : Blocks) (settings : Settings) (replay : Replay) : Type 0 where
  pub places : HasPlaces blocks settings replay
  pub range : AreInRange settings
  pub lawful : AreLawful blocks settings (counts_of replay)

-- what a replay has after an event, whatever the blocks and the settings are
abbrev pub Leaves : (old new : Replay) → Event → Type 0
Leaves old new event = (blocks : Blocks) (settings : Settings)
    → counts_of new ≡ counts_after blocks settings (counts_of old) event

-- the places stay
abbrev pub KeepsPlaces : (old new : Replay) → Type 0
KeepsPlaces old new = (blocks : Blocks) (settings : Settings) → HasPlaces blocks settings old
    → HasPlaces blocks settings new

-- the reason of the first test of the event's own that is true
abbrev pub own_refusal : Blocks → Settings → Replay → Event → Option EventRefusal
own_refusal blocks settings replay event =
    first_true (tests blocks settings (counts_of replay) event)

-- whether a block is busy by these leases
abbrev pub is_busy_by : Blocks → List (Option Grant) → (block : ℕ) → Bool
is_busy_by blocks leases block =
    is_busy blocks (length leases) (λ worker. get_or leases worker None) block
