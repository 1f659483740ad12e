-- The parts of an answer: one, or those of a search with falling weights.
use Rattle.std.proofs.Common.{◌≡◌, inl, inr, ℕ, true, true≢false, Option, List, [], ◌∷◌, Result, Ok, Err, refl, sym, ap, ◌∙◌, append-nil}
use Rattle.pb_task.specs.declared.parts.TaskParts.{TaskParts}
use Rattle.pb_command.specs.Meaning.{Reading, Refused, Read, Solve, Falling, Check, Journal, Make, FallingMeaning}
use Rattle.pb_tables.specs.Tables.{TablesValue}
use Rattle.pb_answer.specs.Loaded.{solve_task}
use Rattle.pb_answer.specs.Searches.{ByAskedChoice}
use Rattle.pb_answer.specs.Answer.{Said}
use Rattle.pb_answer.specs.Parts.{AnswerPart, outputs_of, report_of, AreAnswerParts}
use Rattle.pb_answer.specs.Falling.{IsFallingFound}
use Rattle.pb_answer.specs.FallingRuns.{part_of}
use Rattle.pb_run.specs.Parted.{asks_one_part, OfTaskOr, AreAllParts, AreFirstParts}

-- ---- if one part is asked for

pub all_are_one : (reading : Reading) (texts : List (List ℕ)) (said : Said) (parts : List AnswerPart) → asks_one_part reading ≡ true → AreAllParts reading texts said parts → AreAnswerParts said parts
all_are_one (Refused fault) texts said parts one are = are
all_are_one (Read (Solve solve)) texts said parts one are = are
all_are_one (Read (Falling falling)) texts said parts one are = absurd (true≢false (sym one))
all_are_one (Read (Check check)) texts said parts one are = are
all_are_one (Read (Journal journal)) texts said parts one are = are
all_are_one (Read (Make make)) texts said parts one are = are

pub none_are_first : (reading : Reading) (texts : List (List ℕ)) (parts : List AnswerPart) → asks_one_part reading ≡ true → AreFirstParts reading texts parts → parts ≡ []
none_are_first (Refused fault) texts parts one are = are
none_are_first (Read (Solve solve)) texts parts one are = are
none_are_first (Read (Falling falling)) texts parts one are = absurd (true≢false (sym one))
none_are_first (Read (Check check)) texts parts one are = are
none_are_first (Read (Journal journal)) texts parts one are = are
none_are_first (Read (Make make)) texts parts one are = are

-- all that is said, as one part
pub whole_parts : (reading : Reading) (texts : List (List ℕ)) (said : Said) → asks_one_part reading ≡ true → AreAllParts reading texts said (part_of said ∷ [])
whole_parts (Refused fault) texts said one = refl
whole_parts (Read (Solve solve)) texts said one = refl
whole_parts (Read (Falling falling)) texts said one = absurd (true≢false (sym one))
whole_parts (Read (Check check)) texts said one = refl
whole_parts (Read (Journal journal)) texts said one = refl
whole_parts (Read (Make make)) texts said one = refl

-- ---- no parts are first parts

pub no_parts : (reading : Reading) (texts : List (List ℕ)) → AreFirstParts reading texts []
no_parts (Refused fault) texts = refl
no_parts (Read (Solve solve)) texts = refl
no_parts (Read (Falling falling)) texts = inl refl
no_parts (Read (Check check)) texts = refl
no_parts (Read (Journal journal)) texts = refl
no_parts (Read (Make make)) texts = refl

-- ---- all parts have all files and the whole report

one_outputs : (said : Said) (parts : List AnswerPart) → AreAnswerParts said parts → said.outputs ≡ outputs_of parts
one_outputs said parts is = sym (ap outputs_of is ∙ append-nil said.outputs)

one_report : (said : Said) (parts : List AnswerPart) → AreAnswerParts said parts → said.report ≡ report_of parts
one_report said parts is = sym (ap report_of is ∙ append-nil said.report)

module _ (falling : FallingMeaning) (texts : List (List ℕ)) (said : Said) (parts : List AnswerPart) where
  abbrev Given : Type 0
  Given = Result (TaskParts × Option TablesValue) (List ℕ)

  abbrev OfTask : Given → Type 0
  OfTask task = OfTaskOr task (AreAnswerParts said parts) (λ (read : TaskParts × Option TablesValue). ByAskedChoice falling.solve read
      (λ choice t. IsFallingFound falling.solve choice t falling.steps said parts))

  task_outputs : (task : Given) → OfTask task → said.outputs ≡ outputs_of parts
  task_outputs (Ok read) (choice, asked, are) = are.outputs
  task_outputs (Err report) are = one_outputs said parts are

  falling_outputs : AreAllParts (Read (Falling falling)) texts said parts → said.outputs ≡ outputs_of parts
  falling_outputs (inl (stop, are)) = one_outputs said parts are
  falling_outputs (inr are) = task_outputs (solve_task falling.solve texts) are

  task_report : (task : Given) → OfTask task → said.report ≡ report_of parts
  task_report (Ok read) (choice, asked, are) = are.report
  task_report (Err report) are = one_report said parts are

  falling_report : AreAllParts (Read (Falling falling)) texts said parts → said.report ≡ report_of parts
  falling_report (inl (stop, are)) = one_report said parts are
  falling_report (inr are) = task_report (solve_task falling.solve texts) are

pub all_outputs : (reading : Reading) (texts : List (List ℕ)) (said : Said) (parts : List AnswerPart) → AreAllParts reading texts said parts → said.outputs ≡ outputs_of parts
all_outputs (Refused fault) texts said parts are = one_outputs said parts are
all_outputs (Read (Solve solve)) texts said parts are = one_outputs said parts are
all_outputs (Read (Falling falling)) texts said parts are = falling_outputs falling texts said parts are
all_outputs (Read (Check check)) texts said parts are = one_outputs said parts are
all_outputs (Read (Journal journal)) texts said parts are = one_outputs said parts are
all_outputs (Read (Make make)) texts said parts are = one_outputs said parts are

pub all_report : (reading : Reading) (texts : List (List ℕ)) (said : Said) (parts : List AnswerPart) → AreAllParts reading texts said parts → said.report ≡ report_of parts
all_report (Refused fault) texts said parts are = one_report said parts are
all_report (Read (Solve solve)) texts said parts are = one_report said parts are
all_report (Read (Falling falling)) texts said parts are = falling_report falling texts said parts are
all_report (Read (Check check)) texts said parts are = one_report said parts are
all_report (Read (Journal journal)) texts said parts are = one_report said parts are
all_report (Read (Make make)) texts said parts are = one_report said parts are
