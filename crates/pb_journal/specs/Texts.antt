-- The text of a journal: six lines of settings, and a line for each event.
use Rattle.std.specs.Prelude.{◌≡◌, ℕ, ◌^◌, ◌<◌, Bool, true, false, List, [], ◌∷◌, ◌++◌, map, codes, ⊤}
use Rattle.std.specs.Fmt.{decimal}
use Rattle.pb_model.specs.Texts.{lines, spaced}
use Rattle.pb_machine.specs.declared.event.End.TheVariants.{Quiet, Budget, Memory}
use Rattle.pb_machine.specs.declared.event.Event.{Event}
use Rattle.pb_machine.specs.declared.event.Event.TheVariants.{Lease, Renew, Hot, Cold, Release, Off, Ended}
use Rattle.pb_machine.specs.declared.settings.Settings.{Settings}

-- a word and a number
abbrev pub numbered : (word : List ℕ) → ℕ → List ℕ
numbered word n = spaced word (decimal n)

-- a word and two numbers
abbrev pub numbered_twice : (word : List ℕ) → ℕ → ℕ → List ℕ
numbered_twice word first second = spaced word (spaced (decimal first) (decimal second))

abbrev pub plain_line : Bool → List ℕ
plain_line false = codes "plain 0"
plain_line true = codes "plain 1"

-- the settings, without the weight and the pattern database
abbrev pub header_lines : Settings → List (List ℕ)
header_lines settings =
    codes "pbnf-journal 1"
    ∷ numbered (codes "blocks") settings.wish
    ∷ numbered (codes "workers") settings.workers
    ∷ numbered (codes "budget") settings.budget
    ∷ numbered (codes "lot") settings.lot
    ∷ plain_line settings.plain
    ∷ []

-- how a worker reports: whether it is out of memory
abbrev pub report_word : (memory : Bool) → List ℕ
report_word false = codes "ok"
report_word true = codes "memory"

-- an event: its name, the worker, and the block or the expansions that were used, and the new quota
abbrev pub event_line : Event → List ℕ
event_line (Lease worker block quota) =
    spaced (codes "lease") (spaced (decimal worker) (spaced (decimal block) (decimal quota)))
event_line (Renew worker used quota) =
    spaced (codes "renew") (spaced (decimal worker) (spaced (decimal used) (decimal quota)))
event_line (Hot worker block) = numbered_twice (codes "hot") worker block
event_line (Cold worker block) = numbered_twice (codes "cold") worker block
event_line (Release worker used memory) =
    spaced (codes "release") (spaced (decimal worker) (spaced (decimal used) (report_word memory)))
event_line (Off worker memory) = spaced (codes "off") (spaced (decimal worker) (report_word memory))
event_line (Ended Quiet) = codes "end quiet"
event_line (Ended Budget) = codes "end budget"
event_line (Ended Memory) = codes "end memory"

abbrev pub header_text : Settings → List ℕ
header_text settings = lines (header_lines settings)

abbrev pub events_text : List Event → List ℕ
events_text journal = lines (map event_line journal)

-- the whole text
abbrev pub journal_text : Settings → List Event → List ℕ
journal_text settings journal = header_text settings ++ events_text journal

-- the same text, line by line
abbrev pub lines_of : Settings → List Event → List (List ℕ)
lines_of settings journal = header_lines settings ++ map event_line journal

-- a number that a journal can state
abbrev pub IsNumber : ℕ → Type 0
IsNumber n = n < 2 ^ 63

-- an event whose numbers can be stated
abbrev pub Fits : Event → Type 0
Fits (Lease worker block quota) = IsNumber worker × IsNumber block × IsNumber quota
Fits (Renew worker used quota) = IsNumber worker × IsNumber used × IsNumber quota
Fits (Hot worker block) = IsNumber worker × IsNumber block
Fits (Cold worker block) = IsNumber worker × IsNumber block
Fits (Release worker used memory) = IsNumber worker × IsNumber used
Fits (Off worker memory) = IsNumber worker
Fits (Ended end) = ⊤

-- the line spells the event
pub record IsSpelled (line : List ℕ) (event : Event) : Type 0 where
  pub text : line ≡ event_line event
  pub fits : Fits event
