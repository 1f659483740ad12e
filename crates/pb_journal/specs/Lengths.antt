-- How long the text of a journal can be. The law is proved, as the contract of the public function
-- that has its name.
use Rattle.std.specs.Prelude.{◌≡◌, ℕ, ◌+◌, ◌*◌, ◌≤◌, List, length}
use Rattle.pb_machine.specs.declared.event.Event.{Event}
use Rattle.pb_machine.specs.declared.settings.Settings.{Settings}
use Rattle.pb_machine.specs.Blocks.{Blocks}
use Rattle.pb_machine.specs.Counts.{Counts}
use Rattle.pb_machine.specs.History.{IsHistory}
use Rattle.pb_journal.specs.Texts.{journal_text}

-- How many bytes the text of so many events can have: 79 of the header, and 26 a line. The longest
-- line is a release out of memory, of a worker of two digits and a number of seven.
abbrev pub most_bytes : (events : ℕ) → ℕ
most_bytes events = 79 + 26 * events

-- The text of a legal history is no longer than its number of events allows.
abbrev pub JournalTextsAreShort : Type 0
JournalTextsAreShort =
    (blocks : Blocks) (settings : Settings) (journal : List Event) (counts : Counts)
    → blocks.count ≤ 4096 → IsHistory blocks settings 0 journal counts
    → length (journal_text settings journal) ≤ most_bytes (length journal)
