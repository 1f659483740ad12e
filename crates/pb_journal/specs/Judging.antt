-- The first line of a journal that is refused, and why.
use Rattle.std.specs.Prelude.{ℕ, ◌+◌, Bool, true, not, Option, None, Some, List, [], ◌∷◌, length, Result, Ok, if◌then◌else◌, ◌==◌, ◌&&◌, is_some}
use Rattle.pb_machine.specs.declared.event.EventRefusal.{EventRefusal}
use Rattle.pb_machine.specs.declared.settings.Settings.{Settings}
use Rattle.pb_machine.specs.Tables.{any_below}
use Rattle.pb_machine.specs.Blocks.{Blocks}
use Rattle.pb_machine.specs.Counts.{Counts, opening_counts, counts_after}
use Rattle.pb_machine.specs.Legality.{refusal}
use Rattle.pb_journal.specs.declared.error.Why.TheVariants.{Spelling, Short}
use Rattle.pb_journal.specs.declared.error.Fault.{Fault}
use Rattle.pb_journal.specs.Faults.{◌>>=◌, fault_at, why_of}
use Rattle.pb_journal.specs.Reading.{header_of, event_in, lines_in, tail_in}

-- the settings of the header
abbrev pub settings_of : List ℕ → Result Settings Fault
settings_of bytes = header_of bytes >>= λ header. Ok header.0

-- what an event leaves, unless it is refused
abbrev pub unless_refused : (line : ℕ) → Option EventRefusal → (after : Counts)
    → Result Counts Fault
unless_refused line None after = Ok after
unless_refused line (Some refusal) after = fault_at line (why_of refusal)

-- the counts after the line
unfoldable pub after_line : Blocks → Settings → Counts → (line : ℕ) → List ℕ → Result Counts Fault
after_line blocks settings counts line text = do
  event ← event_in line text
  unless_refused line (refusal blocks settings counts event)
      (counts_after blocks settings counts event)

-- the counts after these lines, the first of which has this number
unfoldable pub after_lines : Blocks → Settings → Counts → (line : ℕ) → List (List ℕ)
    → Result Counts Fault
after_lines blocks settings counts line [] = Ok counts
after_lines blocks settings counts line (text ∷ texts) = do
  after ← after_line blocks settings counts line text
  after_lines blocks settings after (line + 1) texts

-- whether the search has ended, and every worker has signed off
abbrev pub are_finished : Settings → Counts → Bool
are_finished settings counts =
    is_some counts.end
    && not (any_below settings.workers (λ worker. not (counts.signed_off worker)))

-- the text may end here, with these bytes after its last line
abbrev pub end_fault : Settings → Counts → (line : ℕ) → (tail : List ℕ) → Result Bool Fault
end_fault settings counts line tail =
    if length tail == 0 then
    (if are_finished settings counts then Ok true else fault_at line Short)
    else fault_at line Spelling

-- how many events a text has after its header, from these counts on
unfoldable pub events_of : Blocks → Settings → Counts → (text : List ℕ) → Result ℕ Fault
events_of blocks settings counts text = do
  after ← after_lines blocks settings counts 7 (lines_in text)
  ended ← end_fault settings after (7 + length (lines_in text)) (tail_in text)
  Ok (length (lines_in text))

-- how many events a journal has, or the first line that is refused
unfoldable pub judged : Blocks → (bytes : List ℕ) → Result ℕ Fault
judged blocks bytes = do
  header ← header_of bytes
  events_of blocks header.0 (opening_counts header.0 0) header.1
