-- What is answered of the task that loaded texts spell, or of texts that are refused.
use Rattle.std.specs.Prelude.{◌≡◌, ◌⊎◌, ℕ, Option, None, Some, List, [], ◌∷◌, ◌++◌, Result, Ok, Err}
use Rattle.pb_model.specs.Plan.{HasNoPlan}
use Rattle.pb_model.specs.Texts.{none_report, stopped_report}
use Rattle.pb_task.specs.declared.parts.TaskParts.{TaskParts}
use Rattle.pb_task.specs.Parts.{space_of}
use Rattle.pb_tables.specs.Tables.{TablesValue}
use Rattle.pb_estimate.specs.Choices.{Choice}
use Rattle.pb_cert.specs.Stated.{text_of}
use Rattle.pb_cert.specs.Rewritten.{text_saved}
use Rattle.pb_journal.specs.Texts.{journal_text}
use Rattle.pb_command.specs.Meaning.{SolveMeaning, CheckMeaning}
use Rattle.pb_answer.specs.Statuses.{number_of}
use Rattle.pb_answer.specs.Outputs.{Output, output}
use Rattle.pb_answer.specs.Searches.{weight_asked, ByAskedChoice}
use Rattle.pb_answer.specs.Claims.{Certifies, Stops, Solves, PrintsLeastCost, SavesPlan, rewritten_outputs, Accepts, Rejects}
use Rattle.pb_answer.specs.Journals.{AcceptsJournal, RejectsJournal}
use Rattle.pb_answer.specs.declared.answer.Answer.{Answer}
use Rattle.pb_answer.specs.declared.answer.SavedCertificate.{SavedCertificate}
use Rattle.pb_answer.specs.declared.answer.CertificateText.{CertificateText}
use Rattle.pb_answer.specs.declared.answer.CertificateText.TheVariants.{Found, Accepted}
use Rattle.pb_answer.specs.declared.answer.SavedJournal.{SavedJournal}

-- the status, the report, what is to be saved before it is printed, and how many looks grounding had
-- taken when this was said
pub record Said : Type 0 where
  pub status : ℕ
  pub report : List ℕ
  pub outputs : List Output
  pub looks : ℕ

abbrev pub certificate_text : CertificateText → List ℕ
certificate_text (Found certificate) = text_of certificate
certificate_text (Accepted rewriting) = text_saved rewriting

abbrev pub certificates_of : Option SavedCertificate → List Output
certificates_of None = []
certificates_of (Some file) = output file.name.now (certificate_text file.text) ∷ []

abbrev pub journals_of : Option SavedJournal → List Output
journals_of None = []
journals_of (Some file) = output file.name.now (journal_text file.settings file.events.now) ∷ []

-- the certificate, and then the journal
abbrev pub said_of : Answer → Said
said_of answer = record {
  status = number_of answer.status;
  report = answer.report;
  outputs = certificates_of answer.certificate ++ journals_of answer.journal;
  looks = answer.looks;
}

-- the report is this text
abbrev pub Says : Said → List ℕ → Type 0
Says said text = said.report ≡ text

-- these are the files that are to be saved
abbrev pub Saves : Said → List Output → Type 0
Saves said outputs = said.outputs ≡ outputs

-- ---- of a task that is to be solved

-- A plan is reported that a search as the words ask for it, by this choice of an estimate, found.
-- Certificate and journal of that search are saved, each if it has a name. Whatever plan is read off
-- the report, it is the one that all this is said of.
abbrev pub IsSolved : SolveMeaning → Choice → TaskParts → Said → Type 0
IsSolved solve choice parts said =
    (said.status ≡ 0) × Solves (Says said) (Saves said) solve choice parts
    × PrintsLeastCost (Says said) parts (weight_asked solve)
    × SavesPlan (Says said) (Saves said) solve choice parts

-- it is reported that there is no plan, with the certificate of that
abbrev pub IsUnsolvable : SolveMeaning → Choice → TaskParts → Said → Type 0
IsUnsolvable solve choice parts said =
    (said.status ≡ 1) × Says said none_report × HasNoPlan (space_of parts)
    × Certifies (Saves said) solve choice parts None

-- a search as the words ask for it used up its budget of expansions, and there is no certificate
abbrev pub IsStopped : SolveMeaning → Choice → TaskParts → Said → Type 0
IsStopped solve choice parts said =
    (said.status ≡ 2) × Says said (stopped_report solve.settings.budget)
    × Stops (Saves said) solve choice parts

abbrev pub IsFound : SolveMeaning → Choice → TaskParts → Said → Type 0
IsFound solve choice parts said =
    IsSolved solve choice parts said
    ⊎ (IsUnsolvable solve choice parts said ⊎ IsStopped solve choice parts said)

-- All this is said of one search of the task that was read, with the tables of a file or without.
-- The search went by a choice of an estimate that the words ask for.
abbrev pub IsFoundOf : SolveMeaning → (read : TaskParts × Option TablesValue) → Said → Type 0
IsFoundOf solve read said =
    ByAskedChoice solve read (λ choice parts. IsFound solve choice parts said)

-- ---- of a certificate that is to be checked

abbrev pub IsChecked : CheckMeaning → TaskParts → (certificate : List ℕ) → Said → Type 0
IsChecked check parts certificate said =
    ((said.status ≡ 0) × Saves said (rewritten_outputs check parts certificate)
    × Accepts (Says said) parts certificate)
    ⊎ ((said.status ≡ 3) × Saves said [] × Rejects (Says said) parts certificate)

-- ---- of a journal that is to be judged

abbrev pub IsJudged : TaskParts → (journal : List ℕ) → Said → Type 0
IsJudged parts journal said =
    ((said.status ≡ 0) × Saves said [] × AcceptsJournal (Says said) parts journal)
    ⊎ ((said.status ≡ 3) × Saves said [] × RejectsJournal (Says said) parts journal)

-- ---- of texts that may spell no task

-- the input is refused with this report
abbrev pub IsRefused : (report : List ℕ) → Said → Type 0
IsRefused report said = (said.status ≡ 65) × Says said report × Saves said []

-- what P says of a task, or the refusal of the texts
abbrev pub OrRefused : {A : Type 0} → Result A (List ℕ) → (P : A → Said → Type 0) → Said → Type 0
OrRefused (Ok task) P said = P task said
OrRefused (Err report) P said = IsRefused report said
