-- Reading the lines of a journal, each with its number, and the first that is refused.
use Rattle.std.specs.Prelude.{ℕ, ◌^◌, Bool, true, false, Option, None, Some, List, [], ◌∷◌, length, Result, Ok, if◌then◌else◌, nat_le, ◌==◌, ◌&&◌, codes}
use Rattle.std.specs.List.{list_any}
use Rattle.pb_machine.specs.declared.event.End.TheVariants.{Quiet, Budget, Memory}
use Rattle.pb_machine.specs.declared.event.Event.{Event}
use Rattle.pb_machine.specs.declared.event.Event.TheVariants.{Lease, Renew, Hot, Cold, Release, Off, Ended}
use Rattle.pb_machine.specs.declared.settings.Settings.{Settings}
use Rattle.pb_machine.specs.Settings.{standard}
use Rattle.pb_journal.specs.declared.error.Why.{Why}
use Rattle.pb_journal.specs.declared.error.Why.TheVariants.{Spelling, Settings as OutOfRange, Short}
use Rattle.pb_journal.specs.declared.error.Fault.{Fault}
use Rattle.pb_journal.specs.Faults.{◌>>=◌, fault_at, wanted}
use Rattle.pb_lines.specs.Words.{part, behind, is_text, number_of}

-- ---- lines

-- why there is no whole line: nothing is left, or the text ends within the line
abbrev pub why_missing : List ℕ → Why
why_missing text = if length text == 0 then Short else Spelling

abbrev pub first_line : (line : ℕ) → (text : List ℕ) → Option (List ℕ × List ℕ)
    → Result (List ℕ × List ℕ) Fault
first_line line text None = fault_at line (why_missing text)
first_line line text (Some parts) = Ok parts

-- a line and the text after it
abbrev pub line_at : (line : ℕ) → List ℕ → Result (List ℕ × List ℕ) Fault
line_at line text = first_line line text (part 10 text)

abbrev pub with_first : (b : ℕ) → List (List ℕ) → List (List ℕ)
with_first b [] = []
with_first b (line ∷ lines) = (b ∷ line) ∷ lines

-- all lines that have an end
unfoldable pub lines_in : List ℕ → List (List ℕ)
lines_in [] = []
lines_in (b ∷ bs) = if b == 10 then [] ∷ lines_in bs else with_first b (lines_in bs)

-- what follows the last of these lines
unfoldable pub tail_in : List ℕ → List ℕ
tail_in [] = []
tail_in (b ∷ bs) = if list_any (λ c. c == 10) (b ∷ bs) then tail_in bs else b ∷ bs

-- ---- the header

unfoldable pub fixed_at : (line : ℕ) → (piece text : List ℕ) → Result (List ℕ) Fault
fixed_at line piece text = do
  first ← line_at line text
  if is_text piece first.0 then Ok first.1 else fault_at line Spelling

-- the number after this piece, in this range
unfoldable pub number_at : (line : ℕ) → (piece : List ℕ) → (least most : ℕ) → (text : List ℕ)
    → Result (ℕ × List ℕ) Fault
number_at line piece least most text = do
  first ← line_at line text
  word ← wanted line (behind piece first.0)
  n ← wanted line (number_of word)
  if nat_le least n && nat_le n most then Ok (n, first.1) else fault_at line OutOfRange

unfoldable pub plain_in : (line : ℕ) → List ℕ → Result Bool Fault
plain_in line text =
    if is_text (codes "plain 0") text then Ok false
    else (if is_text (codes "plain 1") text then Ok true else fault_at line Spelling)

unfoldable pub plain_at : (line : ℕ) → List ℕ → Result (Bool × List ℕ) Fault
plain_at line text = do
  first ← line_at line text
  plain ← plain_in line first.0
  Ok (plain, first.1)

-- the settings, with the weight 1 and no pattern database, and the text after the header
unfoldable pub header_of : List ℕ → Result (Settings × List ℕ) Fault
header_of bytes = do
  rest ← fixed_at 1 (codes "pbnf-journal 1") bytes
  wish ← number_at 2 (codes "blocks ") 16 4096 rest
  workers ← number_at 3 (codes "workers ") 1 64 wish.1
  budget ← number_at 4 (codes "budget ") 1 (2 ^ 40) workers.1
  lot ← number_at 5 (codes "lot ") 1 (2 ^ 20) budget.1
  plain ← plain_at 6 lot.1
  Ok (
    record standard {
      workers = workers.0;
      budget = budget.0;
      lot = lot.0;
      wish = wish.0;
      plain = plain.0;
    },
    plain.1,
  )

-- ---- an event

abbrev pub by_word : Option (List ℕ) → (List ℕ → Result Event Fault) → (other : Result Event Fault)
    → Result Event Fault
by_word None f other = other
by_word (Some words) f other = f words

-- a number, and the words after it
unfoldable pub number_before : (line : ℕ) → List ℕ → Result (ℕ × List ℕ) Fault
number_before line words = do
  parts ← wanted line (part 32 words)
  n ← wanted line (number_of parts.0)
  Ok (n, parts.1)

unfoldable pub report_in : (line : ℕ) → List ℕ → Result Bool Fault
report_in line word =
    if is_text (codes "ok") word then Ok false
    else (if is_text (codes "memory") word then Ok true else fault_at line Spelling)

unfoldable pub lease_in : (line : ℕ) → List ℕ → Result Event Fault
lease_in line words = do
  worker ← number_before line words
  block ← number_before line worker.1
  quota ← wanted line (number_of block.1)
  Ok (Lease worker.0 block.0 quota)

unfoldable pub renewal_in : (line : ℕ) → List ℕ → Result Event Fault
renewal_in line words = do
  worker ← number_before line words
  used ← number_before line worker.1
  quota ← wanted line (number_of used.1)
  Ok (Renew worker.0 used.0 quota)

unfoldable pub hot_in : (line : ℕ) → List ℕ → Result Event Fault
hot_in line words = do
  worker ← number_before line words
  block ← wanted line (number_of worker.1)
  Ok (Hot worker.0 block)

unfoldable pub cold_in : (line : ℕ) → List ℕ → Result Event Fault
cold_in line words = do
  worker ← number_before line words
  block ← wanted line (number_of worker.1)
  Ok (Cold worker.0 block)

unfoldable pub release_in : (line : ℕ) → List ℕ → Result Event Fault
release_in line words = do
  worker ← number_before line words
  used ← number_before line worker.1
  memory ← report_in line used.1
  Ok (Release worker.0 used.0 memory)

unfoldable pub off_in : (line : ℕ) → List ℕ → Result Event Fault
off_in line words = do
  worker ← number_before line words
  memory ← report_in line worker.1
  Ok (Off worker.0 memory)

unfoldable pub end_in : (line : ℕ) → List ℕ → Result Event Fault
end_in line text =
    if is_text (codes "end quiet") text then Ok (Ended Quiet)
    else (if is_text (codes "end budget") text then Ok (Ended Budget)
    else (if is_text (codes "end memory") text then Ok (Ended Memory) else fault_at line Spelling))

unfoldable pub event_in : (line : ℕ) → List ℕ → Result Event Fault
event_in line text =
    by_word (behind (codes "lease ") text) (lease_in line)
    (by_word (behind (codes "renew ") text) (renewal_in line)
    (by_word (behind (codes "hot ") text) (hot_in line)
    (by_word (behind (codes "cold ") text) (cold_in line)
    (by_word (behind (codes "release ") text) (release_in line)
    (by_word (behind (codes "off ") text) (off_in line) (end_in line text))))))
