-- What a saved certificate states of the estimate of its search.
use Rattle.std.proofs.Common.{◌≡◌, ◌⊎◌, inl, inr, ℕ, ◌==◌, Bool, true, false, Option, None, Some, List, [], ◌∷◌, ◌++◌, Ok, if◌then◌else◌, codes, refl, sym, ap, subst, ◌∙◌, append_assoc}
use Rattle.std.specs.Fmt.{decimal}
use Rattle.std.proofs.lemmas.Option.{none-some}
use Rattle.pb_model.specs.Plan.{Plan}
use Rattle.pb_model.specs.Texts.{line, lines, spaced, weight_text, plan_text, rows_text}
use Rattle.pb_task.specs.Kinds.{kind_of, kind_name}
use Rattle.pb_task.specs.declared.grounding.Grounding.{Grounding}
use Rattle.pb_task.specs.declared.grounding.Grounding.TheVariants.{All, Reachable}
use Rattle.pb_task.specs.Groundings.{grounding_of, grounding_name}
use Rattle.pb_task.specs.Widths.{width_of}
use Rattle.pb_task.specs.declared.parts.TaskParts.{TaskParts}
use Rattle.pb_tables.specs.Tables.{TablesValue}
use Rattle.pb_estimate.specs.Choices.{Choice, Plain, Pattern, choice_with}
use Rattle.pb_estimate.specs.declared.spelling.Spelling.{Spelling}
use Rattle.pb_estimate.specs.Spelling.{head_of, spelling_of, version_of}
use Rattle.pb_command.specs.Meaning.{Reading, Read, Solve, SolveMeaning}
use Rattle.pb_command.specs.declared.table.ValuedOption.TheVariants.{Estimate, Effort, Tables as TablesOption}
use Rattle.pb_command.specs.Values.{effort_of}
use Rattle.pb_command.specs.Options.{Argument, value_given, number_given, effort_given, solve_given, HaveOneEstimate, SolveReadsOptions, kind_word}
use Rattle.pb_answer.specs.Outputs.{Output, output}
use Rattle.pb_answer.specs.Loaded.{input_task, grounding_asked, OfTexts}
use Rattle.pb_answer.specs.Searches.{settings_of, weight_asked, IsChoiceFor, IsChoiceAsked}
use Rattle.pb_answer.specs.Claims.{IsCertificate, journal_outputs_if_any, Certifies}
use Rattle.pb_answer.specs.Answer.{Saves}
use Rattle.pb_answer.proofs.Callers.{no_file, task_read, none_given, input_kind, input_grounding}
use Rattle.pb_run.specs.Outcome.{Outcome, IfSolve}
use Rattle.pb_run.specs.Headline.{CertificateHolds}
use Rattle.pb_run.specs.Commands.{SolveHolds}
use Rattle.pb_run.specs.Laws.{IsSavedFirst, BeginsWithLines, first_lines, CertificatesStateTheirChoice, CertificatesStateTheirPattern}
use Rattle.pb_run.proofs.Accepted.{none_of, first_text}

-- ---- the first lines

-- how a certificate of a task with this grounding is spelled
abbrev spelled : TaskParts → Grounding → Choice → Spelling
spelled task grounding choice = record {
  kind = kind_of task;
  version = version_of grounding choice;
  width = width_of task;
  stated = record { grounding = grounding; choice = choice };
}

abbrev kind_of_task : TaskParts → List ℕ
kind_of_task task = spaced (codes "kind") (kind_name (kind_of task))

abbrev width_of_task : TaskParts → List ℕ
width_of_task task = spaced (codes "width") (decimal (width_of task))

of_all : (task : TaskParts) (pattern : ℕ) (none : Bool)
    → head_of (spelled task All (if none then Plain else Pattern pattern))
    ≡ (if none then codes "pbnf-certificate 2" ∷ kind_of_task task ∷ width_of_task task ∷ []
    else codes "pbnf-certificate 3" ∷ kind_of_task task ∷ width_of_task task
    ∷ spaced (codes "pattern") (decimal pattern) ∷ [])
of_all task pattern true = refl
of_all task pattern false = refl

of_reachable : (task : TaskParts) (pattern : ℕ) (none : Bool)
    → head_of (spelled task Reachable (if none then Plain else Pattern pattern))
    ≡ codes "pbnf-certificate 4" ∷ kind_of_task task ∷ width_of_task task
    ∷ spaced (codes "grounding") (grounding_name Reachable)
    ∷ (if none then codes "estimate plain" else spaced (codes "estimate pattern") (decimal pattern)) ∷ []
of_reachable task pattern true = refl
of_reachable task pattern false = refl

by_grounding : (task : TaskParts) (pattern : ℕ) (grounding : Grounding)
    → head_of (spelled task grounding (choice_with pattern))
    ≡ first_lines (kind_name (kind_of task)) (width_of task) grounding pattern
by_grounding task pattern All = of_all task pattern (pattern == 0)
by_grounding task pattern Reachable = of_reachable task pattern (pattern == 0)

-- those of a certificate by its grounding and this number of a pattern
head_is : (task : TaskParts) (pattern : ℕ) → head_of (spelling_of task (choice_with pattern))
    ≡ first_lines (kind_name (kind_of task)) (width_of task) (grounding_of task) pattern
head_is task pattern = by_grounding task pattern (grounding_of task)

-- the first lines of a text, and all behind them
regroup : (head weight plan rows end : List ℕ)
    → (((head ++ weight) ++ plan) ++ rows) ++ end ≡ head ++ (weight ++ (plan ++ (rows ++ end)))
regroup head weight plan rows end =
    append_assoc ((head ++ weight) ++ plan) rows end ∙ append_assoc (head ++ weight) plan (rows ++ end)
    ∙ append_assoc head weight (plan ++ (rows ++ end))

module _ (solve : SolveMeaning) (ran : Outcome) (name text : List ℕ)
    (named : solve.certificate ≡ Some name) (saved : IsSavedFirst ran.said name text) where
  -- the text begins with the lines of an estimate that the words ask for
  abbrev pub StatesAsked : Type 0
  StatesAsked = OfTexts solve ran.texts
      (λ choice task. BeginsWithLines (head_of (spelling_of task choice)) text)

  -- the text is that of the certificate, under its first lines
  begins : (task : TaskParts) (choice : Choice) (plan : Option Plan)
      → Certifies (Saves ran.said) solve choice task plan
      → BeginsWithLines (head_of (spelling_of task choice)) text
  begins task choice plan (left, searched, found, outputs, certificate, saves) =
      let mine = subst (λ (n : Option (List ℕ)). IsCertificate n task choice
      (weight_asked solve) left.guide left.store plan outputs) named certificate in
      let journals = journal_outputs_if_any solve.journal (settings_of solve) left.journal in
      let all : output name text ∷ saved.0 ≡ (output name mine.0 ∷ []) ++ journals =
      sym saved.1 ∙ saves ∙ ap (λ (os : List Output). os ++ journals) mine.2 in (
        _,
        ap first_text all ∙ mine.1.text_is
            ∙ regroup (lines (head_of (spelling_of task choice)))
            (weight_text (weight_asked solve)) (plan_text plan) (rows_text (width_of task) mine.1.lines)
            (line (codes "end")),
      )

  pub states_asked : (ran.said.status ≡ 0) ⊎ (ran.said.status ≡ 1)
      → ran.asked ≡ Read (Solve solve) → SolveHolds solve ran → CertificateHolds ran → StatesAsked
  states_asked (inl zero) is all certified =
      let found = all.one_plan zero in
      (found.0, found.1, (found.2.0, found.2.1, begins found.0.0 found.2.0 (Some found.2.2.0) found.2.2.6))
  states_asked (inr one) is all certified =
      let found = none_of solve ran is certified one in
      (found.0, found.1, (found.2.0, found.2.1, begins found.0.0 found.2.0 None found.2.2))

  abbrev pub StatesPattern : Type 0
  StatesPattern = (task : TaskParts)
      × (input_task solve.input solve.options 0 ran.texts ≡ Ok task)
      × BeginsWithLines (first_lines (kind_word solve.input) (width_of task)
      (grounding_asked solve.input solve.options) solve.settings.pattern) text

  -- without tables that estimate is the one by the pattern's number
  pub states_pattern : solve.effort ≡ None → solve.tables ≡ None → StatesAsked → StatesPattern
  states_pattern none without (read, reads, (choice, asked, first)) =
      let task = read.0 in
      let pattern = solve.settings.pattern in
      let is = task_read solve ran.texts read reads in
      let given : read.1 ≡ None = none_given solve ran.texts read reads (no_file solve.input solve.tables without) in
      let same : choice ≡ choice_with pattern =
      subst (λ (e : Option ℕ). IsChoiceFor e pattern task choice) none
      (subst (λ (g : Option TablesValue). IsChoiceAsked solve g task choice) given asked) in
      let kinds = input_kind task solve.input solve.options 0 ran.texts is in
      let groundings = input_grounding task solve.input solve.options 0 ran.texts is in (
        task,
        is,
        subst (λ (lines : List (List ℕ)). BeginsWithLines lines text)
            (ap (λ (c : Choice). head_of (spelling_of task c)) same ∙ head_is task pattern
            ∙ (λ i. first_lines (kind_name (kinds i)) (width_of task) (groundings i) pattern))
            first,
      )

-- ---- by the words

pub certificates_state_their_choice : SolveReadsOptions → CertificatesStateTheirChoice
certificates_state_their_choice reads input name text arguments solved are one_run weight names journal estimate named kept answered saved =
    let asked = kept.asked ∙ reads input arguments are one_run weight names journal estimate in
    states_asked (solve_given input arguments) solved name text named saved answered asked
    (subst (λ (r : Reading). IfSolve r (λ s. SolveHolds s solved)) asked kept.solve) kept.certified

-- without `--estimate` and `--tables` there is no effort, and a pattern database may be asked for
without_tables : (arguments : List Argument) → value_given Estimate arguments ≡ None
    → value_given TablesOption arguments ≡ None
    → (effort_given arguments ≡ None) × HaveOneEstimate arguments
without_tables arguments none without = (
  ap (λ (word : Option (List ℕ)). effort_of word (number_given Effort arguments)) none,
  (
    λ some. absurd (none-some (codes "tables") (sym none ∙ some)),
    λ file some. absurd (none-some file (sym without ∙ some)),
  ),
)

pub certificates_state_their_pattern : CertificatesStateTheirChoice → CertificatesStateTheirPattern
certificates_state_their_pattern law input name text arguments solved are one_run weight names journal none without named kept answered saved =
    let plain = without_tables arguments none without in
    states_pattern (solve_given input arguments) solved name text named saved plain.0 without
    (law input name text arguments solved are one_run weight names journal plain.1 named kept answered saved)
