-- What is answered of a command line and of the texts that were loaded of its files. If a domain
-- and a problem are read, grounding may be stopped.
use Rattle.std.specs.Prelude.{◌≡◌, ◌⊎◌, ℕ, List, []}
use Rattle.pb_command.specs.Meaning.{Reading, Refused, Read, Solve, Falling, Check, Journal, Make, MakeMeaning}
use Rattle.pb_command.specs.Causes.{IsPrinted}
use Rattle.pb_answer.specs.Searches.{ByAskedChoice}
use Rattle.pb_answer.specs.Loaded.{solve_task, check_task, journal_task}
use Rattle.pb_answer.specs.Answer.{Said, Says, Saves, IsFoundOf, IsChecked, IsJudged, OrRefused}
use Rattle.pb_answer.specs.Parts.{AnswerPart}
use Rattle.pb_answer.specs.Falling.{IsFallingFound}
use Rattle.pb_answer.specs.Stops.{OrStopped}
use Rattle.pb_run.specs.Makes.{MakesPlan, MakesNone, MakesStop}

-- ---- of a task that is to be made

abbrev pub IsMade : MakeMeaning → Said → Type 0
IsMade make said =
    ((said.status ≡ 0) × Saves said [] × MakesPlan (Says said) make)
    ⊎ (((said.status ≡ 1) × Saves said [] × MakesNone (Says said) make)
    ⊎ ((said.status ≡ 2) × Saves said [] × MakesStop (Says said) make))

-- ---- of the words and the texts

abbrev pub AnswersReading : Reading → (texts : List (List ℕ)) → Said → Type 0
AnswersReading (Refused fault) texts said =
    (said.status ≡ 64) × IsPrinted fault said.report × Saves said []
AnswersReading (Read (Solve solve)) texts said =
    OrStopped (Read (Solve solve)) texts (OrRefused (solve_task solve texts) (IsFoundOf solve)) said
AnswersReading (Read (Falling falling)) texts said =
    OrStopped (Read (Falling falling)) texts (OrRefused (solve_task falling.solve texts)
    (λ read all. ByAskedChoice falling.solve read (λ choice task. (parts : List AnswerPart)
    × IsFallingFound falling.solve choice task falling.steps all parts))) said
AnswersReading (Read (Check check)) texts said =
    OrStopped (Read (Check check)) texts
    (OrRefused (check_task check texts) (λ task. IsChecked check task.0 task.1)) said
AnswersReading (Read (Journal journal)) texts said =
    OrStopped (Read (Journal journal)) texts
    (OrRefused (journal_task journal texts) (λ task. IsJudged task.0 task.1)) said
AnswersReading (Read (Make make)) texts said = IsMade make said
