-- What each command promises beside the five promises of `Headline` and those of `Kinds`: a record
-- for each command, with a field for each promise, and one for what is refused. A further command
-- is one record more.
use Rattle.std.specs.Prelude.{◌≡◌, ◌≢◌, ◌⊎◌, ℕ, List, [], ◌∷◌, Result, Ok, Err}
use Rattle.pb_task.specs.declared.parts.TaskParts.{TaskParts}
use Rattle.pb_check.specs.declared.fault.CertificateFault.{CertificateFault}
use Rattle.pb_check.specs.declared.fault.Verdict.{Verdict}
use Rattle.pb_check.specs.Judging.{checked}
use Rattle.pb_command.specs.Meaning.{SolveMeaning, CheckMeaning, JournalMeaning, MakeMeaning}
use Rattle.pb_command.specs.Causes.{IsPrinted}
use Rattle.pb_answer.specs.Spelled.{SpellTask}
use Rattle.pb_answer.specs.Loaded.{check_task, journal_task, OfTexts, OfCheckedTexts, OfJournalTexts, RefusesTexts}
use Rattle.pb_answer.specs.Claims.{Solves, Accepts, Rejects, rewritten_outputs}
use Rattle.pb_answer.specs.Journals.{AcceptsJournal, RejectsJournal, IsJournalOf}
use Rattle.pb_answer.specs.Answer.{Says, Saves}
use Rattle.pb_answer.specs.Stops.{StopsBehind, StopsTexts}
use Rattle.pb_run.specs.Makes.{MakesPlan, MakesNone, MakesStop}
use Rattle.pb_run.specs.Outcome.{Outcome, IfRefused, IfSolve, IfCheck, IfJournal, IfMake, IsBroken, AnswersOneOf}

-- ---- `solve`

-- - `one_plan`: plan, cost, bound, certificate and journal are those of one search, which ran as
--   the words ask for it. Its rows lead to the printed plan.
-- - `statuses`: only 0, 1, 2 and 65, or 71, 73, 74 if nothing is answered.
pub record SolveHolds (solve : SolveMeaning) (it : Outcome) : Type 0 where
  pub one_plan : it.said.status ≡ 0
      → OfTexts solve it.texts (Solves (Says it.said) (Saves it.said) solve)
  pub statuses : AnswersOneOf (0 ∷ 1 ∷ 2 ∷ 65 ∷ []) it

-- ---- `check`

-- the status of a verdict is 0, and that of a fault is 3
abbrev pub IsOfVerdict : Result Verdict CertificateFault → (status : ℕ) → Type 0
IsOfVerdict (Ok verdict) status = (status ≡ 0) ⊎ IsBroken status
IsOfVerdict (Err fault) status = (status ≡ 3) ⊎ IsBroken status

-- - `accepted`: the certificate is a valid one of the task, and what it claims is true.
-- - `rejected`: it isn't valid, and its first fault is printed.
-- - `exact`: the text and the task alone decide between the two, unless grounding is stopped.
-- - `stopped`: grounding was stopped before anything was judged.
-- - `rewritten`: an accepted certificate is saved anew under the name of `--rewrite`, if that is
--   given, and nothing else is saved. One of version 1 is saved in version 2, any other as it is.
-- - `unsaved`: of a rejected one nothing is saved.
pub record CheckHolds (check : CheckMeaning) (it : Outcome) : Type 0 where
  pub accepted : it.said.status ≡ 0 → OfCheckedTexts check it.texts (Accepts (Says it.said))
  pub rejected : it.said.status ≡ 3 → OfCheckedTexts check it.texts (Rejects (Says it.said))
  pub exact : (parts : TaskParts) (certificate : List ℕ) → check_task check it.texts
      ≡ Ok (parts, certificate)
      → IsOfVerdict (checked parts certificate) it.said.status
      ⊎ StopsBehind check.input check.options it.texts it.said
  pub stopped : it.said.status ≡ 2 → StopsBehind check.input check.options it.texts it.said
  pub rewritten : (parts : TaskParts) (certificate : List ℕ) → check_task check it.texts
      ≡ Ok (parts, certificate) → it.said.status ≡ 0
      → Saves it.said (rewritten_outputs check parts certificate)
  pub unsaved : it.said.status ≡ 3 → Saves it.said []
  pub statuses : AnswersOneOf (0 ∷ 2 ∷ 3 ∷ 65 ∷ []) it

-- ---- `journal`

-- - `accepted`: the text is a journal of a finished legal history of the printed number of events,
--   over the task's blocks and with the settings of its header. It says nothing of plans.
-- - `rejected`: it is none, and the first line that is refused is printed, with the reason.
-- - `exact`: each such journal is accepted, unless grounding is stopped.
-- - `stopped`: grounding was stopped before anything was judged.
pub record JournalHolds (journal : JournalMeaning) (it : Outcome) : Type 0 where
  pub accepted : it.said.status ≡ 0
      → OfJournalTexts journal it.texts (AcceptsJournal (Says it.said))
  pub rejected : it.said.status ≡ 3
      → OfJournalTexts journal it.texts (RejectsJournal (Says it.said))
  pub exact : (parts : TaskParts) (text : List ℕ) (events : ℕ) → journal_task journal it.texts
      ≡ Ok (parts, text) → IsJournalOf parts text events
      → (it.said.status ≡ 0)
      ⊎ (StopsBehind journal.input journal.options it.texts it.said ⊎ IsBroken it.said.status)
  pub stopped : it.said.status ≡ 2 → StopsBehind journal.input journal.options it.texts it.said
  pub statuses : AnswersOneOf (0 ∷ 2 ∷ 3 ∷ 65 ∷ []) it

-- ---- `make`

-- - `plan`: a plan of the made task has the printed cost and bound, none is cheaper, and the
--   certificate of the search is accepted.
-- - `none`: the made task has no plan, and the certificate of that is accepted.
-- - `stop`: the search of the made task used up its budget.
pub record MakeHolds (make : MakeMeaning) (it : Outcome) : Type 0 where
  pub plan : it.said.status ≡ 0 → MakesPlan (Says it.said) make
  pub none : it.said.status ≡ 1 → MakesNone (Says it.said) make
  pub stop : it.said.status ≡ 2 → MakesStop (Says it.said) make
  pub statuses : AnswersOneOf (0 ∷ 1 ∷ 2 ∷ []) it

-- ---- refusals

-- - `words`: words that are no command line are refused with the text of that. No other words are:
--   the other records have no status 64.
-- - `input`: texts are refused with status 65 and their report if and only if one is too long, or
--   they spell no task, or no tables that suit it where a file of them is named. Grounding may be
--   stopped before a refusal that would come later.
-- - `spelled`: texts that spell a task by the rules of their format, and tables that suit it where a
--   file of them is named, are not refused.
-- - `unsaved`: a refusal saves no file.
pub record RefusalHolds (it : Outcome) : Type 0 where
  pub words : IfRefused it.asked (λ fault. ((it.said.status ≡ 64)
      × IsPrinted fault it.said.report × Saves it.said [])
      ⊎ ((it.said.status ≡ 71) ⊎ (it.said.status ≡ 74)))
  pub input : it.said.status ≡ 65 → RefusesTexts it.asked it.texts it.said.report
  pub input_exact : (report : List ℕ) → RefusesTexts it.asked it.texts report
      → (it.said.status ≡ 65)
      ⊎ (StopsTexts it.asked it.texts it.said ⊎ IsBroken it.said.status)
  pub spelled : SpellTask it.asked it.texts → it.said.status ≢ 65
  pub unsaved : it.said.status ≡ 65 → Saves it.said []

-- ---- by the words of a call

abbrev pub SolvesHold : Outcome → Type 0
SolvesHold it = IfSolve it.asked (λ solve. SolveHolds solve it)

abbrev pub ChecksHold : Outcome → Type 0
ChecksHold it = IfCheck it.asked (λ check. CheckHolds check it)

abbrev pub JournalsHold : Outcome → Type 0
JournalsHold it = IfJournal it.asked (λ journal. JournalHolds journal it)

abbrev pub MakesHold : Outcome → Type 0
MakesHold it = IfMake it.asked (λ make. MakeHolds make it)
