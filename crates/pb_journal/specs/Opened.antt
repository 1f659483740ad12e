-- A journal whose header was read.
use Rattle.std.specs.Prelude.{◌≡◌, ℕ, List, Ok}
use Rattle.pb_machine.specs.declared.settings.Settings.{Settings}
use Rattle.pb_machine.specs.Settings.{AreInRange}
use Rattle.pb_journal.specs.Reading.{header_of}

-- the bytes of a journal, and the settings that its header states
pub record Opened : Type 0 where
  pub bytes : List ℕ
  pub settings : Settings

-- The bytes have a header with these settings, which are in range, and these bytes after it.
pub record IsOpened (opened : Opened) (events : List ℕ) : Type 0 where
  pub header : header_of opened.bytes ≡ Ok (opened.settings, events)
  pub range : AreInRange opened.settings
