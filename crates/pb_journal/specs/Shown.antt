-- What the answers on a journal mean: that it is the text of a finished legal history.
use Rattle.std.specs.Prelude.{◌≡◌, ◌≢◌, ◌⊎◌, ℕ, ◌+◌, ◌≤◌, List, [], ◌∷◌, ◌++◌, map, length, Some, Ok, Err, if◌then◌else◌, ◌==◌}
use Rattle.pb_model.specs.Weight.{Weight}
use Rattle.pb_machine.specs.declared.event.Event.{Event}
use Rattle.pb_machine.specs.declared.event.EventRefusal.{EventRefusal}
use Rattle.pb_machine.specs.declared.settings.Settings.{Settings}
use Rattle.pb_machine.specs.Settings.{AreInRange, settings_with_weight}
use Rattle.pb_machine.specs.Blocks.{Blocks}
use Rattle.pb_machine.specs.Counts.{Counts, opening_counts}
use Rattle.pb_machine.specs.Legality.{refusal}
use Rattle.pb_machine.specs.History.{replay, IsHistory, AreFinished}
use Rattle.pb_lines.specs.Words.{line_feeds}
use Rattle.pb_journal.specs.declared.error.Why.{Why}
use Rattle.pb_journal.specs.declared.error.Why.TheVariants.{Spelling, Short}
use Rattle.pb_journal.specs.declared.error.Fault.{Fault}
use Rattle.pb_journal.specs.Faults.{why_of}
use Rattle.pb_journal.specs.Texts.{event_line, header_text, journal_text, IsSpelled}
use Rattle.pb_journal.specs.Reading.{lines_in, tail_in}
use Rattle.pb_journal.specs.Judging.{settings_of, judged}

-- the weight 1
abbrev pub one : Weight
one = record { num = 1; den = 1 }

-- the bytes begin with the header of these settings, which are in range
pub record HasHeader (bytes : List ℕ) (settings : Settings) : Type 0 where
  pub rest : List ℕ
  pub text : bytes ≡ header_text settings ++ rest
  pub range : AreInRange settings

-- The bytes are the text of a legal history of so many events over these blocks, with the settings
-- of its header. It begins with the search and is finished: the search has ended, and every worker
-- has signed off.
pub record IsFinishedJournal (blocks : Blocks) (bytes : List ℕ) (events : ℕ) : Type 0 where
  pub settings : Settings
  pub journal : List Event
  pub counts : Counts
  pub text : bytes ≡ journal_text settings journal
  pub legal : IsHistory blocks settings 0 journal counts
  pub finished : AreFinished settings counts
  pub count : events ≡ length journal

-- A journal is accepted, with its number of events, exactly if it is the text of a finished legal
-- history.
abbrev pub AcceptedJournalsAreFinished : Type 0
AcceptedJournalsAreFinished =
    (blocks : Blocks) (bytes : List ℕ) (events : ℕ)
    → (judged blocks bytes ≡ Ok events → IsFinishedJournal blocks bytes events)
    × (blocks.count ≤ 4096 → IsFinishedJournal blocks bytes events → judged blocks bytes
    ≡ Ok events)

-- What is written of a finished legal history is accepted, with its number of events. Its header is
-- read: the settings, but with the weight 1 and no pattern database.
abbrev pub WrittenJournalsAreAccepted : Type 0
WrittenJournalsAreAccepted =
    (blocks : Blocks) (settings : Settings) (journal : List Event) (counts : Counts)
    → blocks.count ≤ 4096
    → IsHistory blocks settings 0 journal counts → AreFinished settings counts
    → (judged blocks (journal_text settings journal) ≡ Ok (length journal))
    × (settings_of (journal_text settings journal) ≡ Ok (settings_with_weight settings one))

-- Why these lines of events, with these bytes after them, can't be the rest of a journal whose
-- events so far lead to these counts. No line is left: the text ends too early, or within a line.
-- Or the first one spells no event, or spells one that may not come.
abbrev pub IsCause : Blocks → Settings → Counts → (others : List (List ℕ)) → (tail : List ℕ) → Why
    → Type 0
IsCause blocks settings counts [] tail why =
    ((tail ≡ []) × (AreFinished settings counts → ⊥) × (why ≡ Short))
    ⊎ ((tail ≢ []) × (why ≡ Spelling))
IsCause blocks settings counts (first ∷ later) tail why =
    (((event : Event) → IsSpelled first event → ⊥) × (why ≡ Spelling))
    ⊎ ((event : Event) × (reason : EventRefusal) × IsSpelled first event
    × (refusal blocks settings counts event ≡ Some reason) × (why ≡ why_of reason))

-- A line after the header is the first that is refused. The header's settings are in range, and the
-- lines between them and this one spell events that may come one after another. This one can't
-- follow, for this reason.
pub record IsFirstFault (blocks : Blocks) (bytes : List ℕ) (line : ℕ) (why : Why) : Type 0 where
  pub settings : Settings
  pub header : HasHeader bytes settings
  pub journal : List Event
  pub others : List (List ℕ)
  pub lines_are : lines_in header.rest ≡ map event_line journal ++ others
  pub counts : Counts
  pub replays : replay blocks settings (opening_counts settings 0) journal ≡ Some counts
  pub line_is : line ≡ 7 + length journal
  pub cause : IsCause blocks settings counts others (tail_in header.rest) why

-- A refused journal is refused in its header, as `read_header` says, or in the first line after it
-- that can't follow those before it.
abbrev pub RefusedLinesAreFirst : Type 0
RefusedLinesAreFirst =
    (blocks : Blocks) (bytes : List ℕ) (fault : Fault) → judged blocks bytes ≡ Err fault
    → (settings_of bytes ≡ Err fault) ⊎ IsFirstFault blocks bytes fault.line fault.why

-- The fault of a text that is cut off. Its line is the one that the text ends in. The text is short
-- if it ends after a whole line, or is empty; else that line is misspelled.
abbrev pub cut_fault : List ℕ → Fault
cut_fault text =
    record {
      line = 1 + line_feeds text;
      why = if length (tail_in text) == 0 then Short else Spelling;
    }

-- the bytes are a beginning of the text of a finished legal history, and not the whole
abbrev pub IsCutOff : Blocks → List ℕ → Type 0
IsCutOff blocks bytes =
    (rest : List ℕ) × (events : ℕ) × IsFinishedJournal blocks (bytes ++ rest) events × (rest ≢ [])

-- A journal that is cut off is refused in the line that it ends in: each beginning of an accepted
-- journal but the whole.
abbrev pub CutJournalsAreRefused : Type 0
CutJournalsAreRefused =
    (blocks : Blocks) (start rest : List ℕ) (events : ℕ) → judged blocks (start ++ rest) ≡ Ok events
    → rest ≢ [] → judged blocks start ≡ Err (cut_fault start)
