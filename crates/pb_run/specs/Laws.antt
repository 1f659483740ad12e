-- What one call of the program saves, another one accepts: by what the words of both ask for, and
-- by the words themselves. A premise by the name of a clause is what that clause of `run` promises.
use Rattle.std.specs.Prelude.{false, ◌≡◌, ◌⊎◌, ℕ, ◌≤◌, ◌==◌, Bool, None, Some, List, [], ◌∷◌, ◌++◌, Ok, length, take, codes, slice_get, if◌then◌else◌}
use Rattle.std.specs.Fmt.{decimal}
use Rattle.std.specs.List.{AllByRecursion}
use Rattle.pb_model.specs.Texts.{lines, spaced}
use Rattle.pb_task.specs.declared.parts.TaskParts.{TaskParts}
use Rattle.pb_task.specs.declared.grounding.Grounding.{Grounding}
use Rattle.pb_task.specs.declared.grounding.Grounding.TheVariants.{All, Reachable}
use Rattle.pb_task.specs.Groundings.{grounding_name}
use Rattle.pb_task.specs.Widths.{width_of}
use Rattle.pb_estimate.specs.Spelling.{spelling_of, head_of}
use Rattle.pb_command.specs.declared.command.InputOptions.{InputOptions}
use Rattle.pb_command.specs.Values.{InputNames, StripsNames, Strips}
use Rattle.pb_command.specs.Meaning.{Read, Solve, SolveMeaning, CheckMeaning, JournalMeaning, reading_of_words}
use Rattle.pb_command.specs.declared.command.Engine.TheVariants.{Leases}
use Rattle.pb_command.specs.declared.table.ValuedOption.{ValuedOption}
use Rattle.pb_command.specs.declared.table.ValuedOption.TheVariants.{Row, Num, Den, Pattern, Estimate, Tables, Certificate, Journal as JournalOption}
use Rattle.pb_command.specs.declared.table.FlagOption.{FlagOption}
use Rattle.pb_command.specs.declared.table.FlagOption.TheVariants.{Swamp, Reachable as ReachableFlag}
use Rattle.pb_command.specs.Options.{Argument, words_of, placed_words, value_given, number_given, flag_given, AreDistinct, IsArgumentOf, is_of_check, is_of_journal, is_flag_of_check, is_flag_of_journal, kind_word, file_words, options_given, AreOfSolve, HaveTwoNames, HaveKeptJournal, HaveOneRun, HaveOneEstimate, HasNewName, solve_given}
use Rattle.pb_journal.specs.Lengths.{most_bytes}
use Rattle.pb_answer.specs.Outputs.{Output, output}
use Rattle.pb_answer.specs.Loaded.{OfTexts, input_task, grounding_asked}
use Rattle.pb_answer.specs.Journals.{IsJournalOf}
use Rattle.pb_answer.specs.Answer.{Said}
use Rattle.pb_answer.specs.Stops.{StopsBehind, StopsTexts}
use Rattle.pb_run.specs.Outcome.{Outcome, IsAnswer, IsBroken}
use Rattle.pb_run.specs.Headline.{CertificateHolds, StopHasCause}
use Rattle.pb_run.specs.Commands.{SolveHolds, CheckHolds, JournalHolds, SolvesHold, ChecksHold, JournalsHold}

-- the first file that is saved has this name and this text
abbrev pub IsSavedFirst : Said → (name text : List ℕ) → Type 0
IsSavedFirst said name text = (rest : List Output) × (said.outputs ≡ output name text ∷ rest)

-- the last file that is saved has this name and this text
abbrev pub IsSavedLast : Said → (name text : List ℕ) → Type 0
IsSavedLast said name text = (first : List Output) × (said.outputs ≡ first ++ output name text ∷ [])

-- A call that judges a text accepts it, or its grounding is stopped, or it answers nothing. How
-- often grounding looks isn't promised, so the texts don't exclude a stop.
abbrev pub AcceptsUnlessStopped : InputNames → InputOptions → Outcome → Type 0
AcceptsUnlessStopped input options it =
    (it.said.status ≡ 0)
    ⊎ (StopsBehind input options it.texts it.said ⊎ IsBroken it.said.status)

-- The first texts that a call loaded, those of its task. The text of a file of tables comes after
-- them, and a call that judges doesn't load it.
abbrev pub task_texts : InputNames → (texts : List (List ℕ)) → List (List ℕ)
task_texts input texts = take (length (file_words input)) texts

-- A call searched a task, answered a plan or none, and saved a certificate under a name. Another
-- call checks the text of that certificate, which was loaded whole, for the same input, row, swamp
-- and grounding. It accepts it, unless its grounding is stopped or it answers nothing: this follows
-- from what is promised of both.
abbrev pub SavedCertificatesAreAccepted : Type 0
SavedCertificatesAreAccepted =
    (solve : SolveMeaning) (check : CheckMeaning) (solved checked : Outcome) (name text : List ℕ)
    → solved.asked ≡ Read (Solve solve) → check.input ≡ solve.input
    → check.options ≡ solve.options
    → solve.certificate ≡ Some name
    → (solved.said.status ≡ 0) ⊎ (solved.said.status ≡ 1)
    → IsSavedFirst solved.said name text → checked.texts ≡ text ∷ task_texts solve.input solved.texts
    → SolveHolds solve solved → CertificateHolds solved → CheckHolds check checked
    → AcceptsUnlessStopped check.input check.options checked

-- A call searched a task by leases, answered a plan, none or a stop, and saved a journal under a
-- name. Another call judges the text of that journal, which was loaded whole, for the same input,
-- row and grounding, with swamp or without. It accepts it, unless its grounding is stopped or it
-- answers nothing.
abbrev pub SavedJournalsAreAccepted : Type 0
SavedJournalsAreAccepted =
    (solve : SolveMeaning) (journal : JournalMeaning) (solved judged : Outcome)
    (name text : List ℕ) → solve.engine ≡ Leases
    → solved.asked ≡ Read (Solve solve) → journal.input ≡ solve.input
    → journal.options ≡ record solve.options { swamp = false } → solve.journal ≡ Some name
    → (solved.said.status ≡ 0) ⊎ ((solved.said.status ≡ 1) ⊎ (solved.said.status ≡ 2))
    → IsSavedLast solved.said name text → judged.texts ≡ text ∷ task_texts solve.input solved.texts
    → SolveHolds solve solved → CertificateHolds solved → StopHasCause solved
    → JournalHolds journal judged
    → AcceptsUnlessStopped journal.input journal.options judged

-- A call searched a task by leases, answered a plan, none or a stop, and saved a journal under a
-- name. The text is a journal of the task, and no longer than its own events allow: 79 bytes, and
-- 26 for each event.
abbrev pub SavedJournalsAreShort : Type 0
SavedJournalsAreShort =
    (solve : SolveMeaning) (solved : Outcome) (name text : List ℕ) → solve.engine ≡ Leases
    → solved.asked ≡ Read (Solve solve) → solve.journal ≡ Some name
    → (solved.said.status ≡ 0) ⊎ ((solved.said.status ≡ 1) ⊎ (solved.said.status ≡ 2))
    → IsSavedLast solved.said name text
    → SolveHolds solve solved → CertificateHolds solved → StopHasCause solved
    → OfTexts solve solved.texts (λ choice parts. (events : ℕ) × IsJournalOf parts text events
    × (length text ≤ most_bytes events))

-- ---- by the words

-- what `run` promises of a call with these words that had this outcome, as far as it is needed here
pub record Keeps (words : List (List ℕ)) (it : Outcome) : Type 0 where
  pub asked : it.asked ≡ reading_of_words words
  pub solve : SolvesHold it
  pub certified : CertificateHolds it
  pub stopped : StopHasCause it
  pub check : ChecksHold it
  pub journal : JournalsHold it

-- Arguments of `solve` for this input, with options in any order but without `--falling`, for
-- either engine. Also arguments of a command with these options and flags, `check` or `journal`,
-- for the same input and the same row, with this file beside it, and with `--reachable` exactly if
-- `solve` has it.
pub record AreMatching (input : InputNames) (has_option : ValuedOption → Bool)
    (has_flag : FlagOption → Bool) (file : List ℕ) (arguments others : List Argument)
    : Type 0 where
  pub solve : AreOfSolve input arguments
  pub one_run : HaveOneRun arguments
  pub weight : number_given Den arguments ≤ number_given Num arguments
  pub names : HaveTwoNames arguments
  pub kept : HaveKeptJournal arguments
  pub estimate : HaveOneEstimate arguments
  pub each : AllByRecursion (IsArgumentOf has_option has_flag) others
  pub distinct : AreDistinct others
  pub placed : placed_words others ≡ kind_word input ∷ file ∷ file_words input
  pub row : number_given Row others ≡ number_given Row arguments
  pub reachable : flag_given ReachableFlag others ≡ flag_given ReachableFlag arguments

-- The call accepts, unless its grounding is stopped or it answers nothing. If it has an answer, or
-- memory ran out, it accepts, or its grounding is stopped, or memory ran out. This second part is
-- for a shelf that can load and a sink that can take the report.
abbrev pub AcceptsIt : Outcome → Type 0
AcceptsIt it =
    ((it.said.status ≡ 0)
    ⊎ (StopsTexts it.asked it.texts it.said ⊎ IsBroken it.said.status))
    × (IsAnswer it.said.status ⊎ (it.said.status ≡ 71) → (it.said.status ≡ 0)
    ⊎ (StopsTexts it.asked it.texts it.said ⊎ (it.said.status ≡ 71)))

-- A call with the words `solve ..`, with `--cert NAME` among them, answered a plan or none and
-- saved a certificate under that name. Another call has the words of the matching `check ..`, with
-- `--swamp` exactly if `solve` had it, and a new name for `--rewrite`, if that is given. It loads
-- the text of that certificate whole and then the same input, and accepts the certificate, unless
-- its grounding is stopped.
abbrev pub CertificatesAreAcceptedByWords : Type 0
CertificatesAreAcceptedByWords =
    (input : InputNames) (name file text : List ℕ) (arguments others : List Argument)
    (solved checked : Outcome) → AreMatching input is_of_check is_flag_of_check file arguments others
    → flag_given Swamp others ≡ flag_given Swamp arguments
    → HasNewName input file others
    → value_given Certificate arguments ≡ Some name
    → Keeps (codes "solve" ∷ words_of arguments) solved
    → Keeps (codes "check" ∷ words_of others) checked
    → (solved.said.status ≡ 0) ⊎ (solved.said.status ≡ 1)
    → IsSavedFirst solved.said name text → checked.texts ≡ text ∷ task_texts input solved.texts
    → AcceptsIt checked

-- A call with the words `solve ..`, with `--trace NAME` among them, answered a plan, none or a
-- stop, and saved a journal under that name. Another call has the words of the matching
-- `journal ..`. It loads the text of that journal whole and then the same input, and accepts the
-- journal, unless its grounding is stopped.
abbrev pub JournalsAreAcceptedByWords : Type 0
JournalsAreAcceptedByWords =
    (input : InputNames) (name file text : List ℕ) (arguments others : List Argument)
    (solved judged : Outcome) → AreMatching input is_of_journal is_flag_of_journal file
    arguments others
    → value_given JournalOption arguments ≡ Some name
    → Keeps (codes "solve" ∷ words_of arguments) solved
    → Keeps (codes "journal" ∷ words_of others) judged
    → (solved.said.status ≡ 0) ⊎ ((solved.said.status ≡ 1) ⊎ (solved.said.status ≡ 2))
    → IsSavedLast solved.said name text → judged.texts ≡ text ∷ task_texts input solved.texts
    → AcceptsIt judged

-- ---- what a certificate states

-- the text begins with these lines
abbrev pub BeginsWithLines : (first : List (List ℕ)) → (text : List ℕ) → Type 0
BeginsWithLines first text = (rest : List ℕ) × (text ≡ lines first ++ rest)

-- The first lines of a certificate of a task of this kind and grounding, whose states have so many
-- digits, by the number of the pattern that its search looked up. The number 0 is that of none.
abbrev pub first_lines : (kind : List ℕ) → (digits : ℕ) → Grounding → (pattern : ℕ)
    → List (List ℕ)
first_lines kind digits All pattern =
    if pattern == 0 then codes "pbnf-certificate 2"
    ∷ spaced (codes "kind") kind
    ∷ spaced (codes "width") (decimal digits) ∷ []
    else codes "pbnf-certificate 3"
    ∷ spaced (codes "kind") kind
    ∷ spaced (codes "width") (decimal digits)
    ∷ spaced (codes "pattern") (decimal pattern) ∷ []
first_lines kind digits Reachable pattern =
    codes "pbnf-certificate 4"
    ∷ spaced (codes "kind") kind
    ∷ spaced (codes "width") (decimal digits)
    ∷ spaced (codes "grounding") (grounding_name Reachable)
    ∷ (if pattern == 0 then codes "estimate plain"
    else spaced (codes "estimate pattern") (decimal pattern)) ∷ []

-- A call with the words `solve ..`, with `--cert NAME` among them and without `--falling`, answered
-- a plan or none and saved a certificate under that name. Its first lines have the kind of the
-- input and the width of the task. For STRIPS with `--reachable` it is of version 4: its fourth line
-- is `grounding reachable`, and its fifth says the estimate. Else it states the number of
-- `--pattern`, if that is given and isn't 0: its fourth line is `pattern K`. Without that it is of
-- version 2, which has no such line. No tables are asked for.
abbrev pub CertificatesStateTheirPattern : Type 0
CertificatesStateTheirPattern =
    (input : InputNames) (name text : List ℕ) (arguments : List Argument) (solved : Outcome)
    → AreOfSolve input arguments → HaveOneRun arguments
    → number_given Den arguments ≤ number_given Num arguments
    → HaveTwoNames arguments → HaveKeptJournal arguments
    → value_given Estimate arguments ≡ None → value_given Tables arguments ≡ None
    → value_given Certificate arguments ≡ Some name
    → Keeps (codes "solve" ∷ words_of arguments) solved
    → (solved.said.status ≡ 0) ⊎ (solved.said.status ≡ 1)
    → IsSavedFirst solved.said name text
    → (parts : TaskParts) × (input_task input (options_given arguments) 0 solved.texts ≡ Ok parts)
    × BeginsWithLines (first_lines (kind_word input) (width_of parts)
    (grounding_asked input (options_given arguments)) (number_given Pattern arguments)) text

-- The same with `--estimate tables` or `--tables FILE` among them, or without. Its first lines, up to
-- the estimate, are those of a choice of an estimate that the words ask for.
abbrev pub CertificatesStateTheirChoice : Type 0
CertificatesStateTheirChoice =
    (input : InputNames) (name text : List ℕ) (arguments : List Argument) (solved : Outcome)
    → AreOfSolve input arguments → HaveOneRun arguments
    → number_given Den arguments ≤ number_given Num arguments
    → HaveTwoNames arguments → HaveKeptJournal arguments → HaveOneEstimate arguments
    → value_given Certificate arguments ≡ Some name
    → Keeps (codes "solve" ∷ words_of arguments) solved
    → (solved.said.status ≡ 0) ⊎ (solved.said.status ≡ 1)
    → IsSavedFirst solved.said name text
    → OfTexts (solve_given input arguments) solved.texts
    (λ choice parts. BeginsWithLines (head_of (spelling_of parts choice)) text)

-- With `--tables FILE` among them, for STRIPS: behind the lines for the kind, the width and the
-- grounding, all of FILE follows as it was loaded.
abbrev pub CertificatesStateTheirFile : Type 0
CertificatesStateTheirFile =
    (names : StripsNames) (name file stated text : List ℕ) (arguments : List Argument)
    (solved : Outcome)
    → AreOfSolve (Strips names) arguments → HaveOneRun arguments
    → number_given Den arguments ≤ number_given Num arguments
    → HaveTwoNames arguments → HaveKeptJournal arguments → HaveOneEstimate arguments
    → value_given Tables arguments ≡ Some file
    → value_given Certificate arguments ≡ Some name
    → Keeps (codes "solve" ∷ words_of arguments) solved
    → (solved.said.status ≡ 0) ⊎ (solved.said.status ≡ 1)
    → slice_get solved.texts 2 ≡ Some stated
    → IsSavedFirst solved.said name text
    → (parts : TaskParts)
    × (input_task (Strips names) (options_given arguments) 0 solved.texts ≡ Ok parts)
    × ((rest : List ℕ) × (text ≡ lines (codes "pbnf-certificate 4"
    ∷ spaced (codes "kind") (kind_word (Strips names))
    ∷ spaced (codes "width") (decimal (width_of parts))
    ∷ spaced (codes "grounding")
    (grounding_name (grounding_asked (Strips names) (options_given arguments))) ∷ [])
    ++ (stated ++ rest)))
