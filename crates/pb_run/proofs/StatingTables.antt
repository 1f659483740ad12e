-- A saved certificate has the file of tables of its search word for word.
use Rattle.std.proofs.Common.{◌≡◌, ℕ, Option, None, Some, List, [], ◌∷◌, ◌++◌, Result, Ok, Err, codes, slice_get, refl, sym, ap, subst, ◌∙◌, append_assoc}
use Rattle.std.specs.Fmt.{decimal}
use Rattle.pb_model.specs.Texts.{line, lines, spaced}
use Rattle.pb_task.specs.declared.kind.Kind.{Kind}
use Rattle.pb_task.specs.declared.kind.Kind.TheVariants as kind
use Rattle.pb_task.specs.Kinds.{kind_of, kind_name}
use Rattle.pb_task.specs.declared.grounding.Grounding.{Grounding}
use Rattle.pb_task.specs.declared.grounding.Grounding.TheVariants.{All, Reachable}
use Rattle.pb_task.specs.Groundings.{grounding_of, grounding_name}
use Rattle.pb_task.specs.Widths.{width_of}
use Rattle.pb_task.specs.declared.parts.TaskParts.{TaskParts}
use Rattle.pb_task.specs.declared.parts.TaskParts.TheVariants as parts
use Rattle.pb_tables.specs.declared.fault.TablesFault.{TablesFault}
use Rattle.pb_tables.specs.Tables.{TablesValue}
use Rattle.pb_tables.specs.Suits.{tables_fault}
use Rattle.pb_table_lines.specs.Lines.{tables_lines, tables_text}
use Rattle.pb_table_lines.specs.Reading.{tables_reading}
use Rattle.pb_table_lines.specs.Laws.{TablesAreReadAsWritten}
use Rattle.pb_estimate.specs.Choices.{Choice, Tables}
use Rattle.pb_estimate.specs.Spelling.{head_of, spelling_of, version_of}
use Rattle.pb_command.specs.Meaning.{SolveMeaning}
use Rattle.pb_command.specs.Values.{StripsNames, Strips}
use Rattle.pb_command.specs.Options.{solve_given, kind_of_input}
use Rattle.pb_answer.specs.Loaded.{input_task, solve_task, with_tables_file, with_its_tables, with_tables_of, with_tables_if_loaded, suiting_told, tables_told, OfTexts}
use Rattle.pb_answer.specs.Searches.{IsChoiceAsked}
use Rattle.pb_answer.proofs.Callers.{task_read, input_kind, input_grounding}
use Rattle.pb_run.specs.Laws.{BeginsWithLines, CertificatesStateTheirChoice, CertificatesStateTheirFile}

-- ---- the tables that were read

-- a task was read with these tables, and the text states them
abbrev ReadsTables : (text : List ℕ) → (read : TaskParts × Option TablesValue) → Type 0
ReadsTables text read =
    (tables : TablesValue) × (read.1 ≡ Some tables)
    × (tables_reading (width_of read.0) text ≡ Ok tables)

not_strips : (kind.Grid ≡ kind.Strips → ⊥) × (kind.Tiles ≡ kind.Strips → ⊥)
not_strips = (λ e. cc, λ e. cc)

reads_tables : (text : List ℕ) (task : Result TaskParts (List ℕ))
    (read : TaskParts × Option TablesValue)
    → ((one : TaskParts) → task ≡ Ok one → kind_of one ≡ kind.Strips)
    → with_tables_of text task ≡ Ok read → ReadsTables text read
reads_tables text (Err report) read kinds e = absurd cc
reads_tables text (Ok (parts.Grid grid)) read kinds e =
    absurd (not_strips.0 (kinds (parts.Grid grid) refl))
reads_tables text (Ok (parts.Tiles tiles)) read kinds e =
    absurd (not_strips.1 (kinds (parts.Tiles tiles) refl))
reads_tables text (Ok (parts.Strips strips)) read kinds e =
    by_reading (tables_reading (width_of (parts.Strips strips)) text) refl e
  where
    by_fault : (tables : TablesValue) (fault : Option TablesFault)
        → tables_reading (width_of (parts.Strips strips)) text ≡ Ok tables
        → with_its_tables (parts.Strips strips) (suiting_told tables fault) ≡ Ok read
        → ReadsTables text read
    by_fault tables (Some fault) reads f = absurd cc
    by_fault tables None reads f =
        let same : (parts.Strips strips, Some tables) ≡ read = cc in
        subst (ReadsTables text) same (tables, refl, reads)

    by_reading : (reading : Result TablesValue ℕ)
        → tables_reading (width_of (parts.Strips strips)) text ≡ reading
        → with_its_tables (parts.Strips strips) (tables_told strips reading) ≡ Ok read
        → ReadsTables text read
    by_reading (Ok tables) reads f = by_fault tables (tables_fault strips tables) reads f
    by_reading (Err at) reads f = absurd cc

-- ---- the first lines

-- those before the lines of the tables
abbrev four_lines : (kind : List ℕ) → (width : ℕ) → Grounding → List (List ℕ)
four_lines kind width grounding =
    codes "pbnf-certificate 4" ∷ spaced (codes "kind") kind
    ∷ spaced (codes "width") (decimal width)
    ∷ spaced (codes "grounding") (grounding_name grounding) ∷ []

head_by : (kind : Kind) (width : ℕ) (tables : TablesValue) (grounding : Grounding)
    → head_of (record {
      kind = kind;
      version = version_of grounding (Tables tables);
      width = width;
      stated = record { grounding = grounding; choice = Tables tables };
    }) ≡ four_lines (kind_name kind) width grounding ++ tables_lines width tables
head_by kind width tables All = refl
head_by kind width tables Reachable = refl

-- four pieces with more behind them
behind_four : (a b c d rest : List ℕ)
    → (a ++ (b ++ (c ++ (d ++ [])))) ++ rest ≡ a ++ (b ++ (c ++ (d ++ rest)))
behind_four a b c d rest =
    append_assoc a (b ++ (c ++ (d ++ []))) rest
    ∙ ap (λ (t : List ℕ). a ++ t) (append_assoc b (c ++ (d ++ [])) rest)
    ∙ ap (λ (t : List ℕ). a ++ (b ++ t)) (append_assoc c (d ++ []) rest)
    ∙ ap (λ (t : List ℕ). a ++ (b ++ (c ++ t))) (append_assoc d [] rest)

lines_joined : (kind : List ℕ) (width : ℕ) (grounding : Grounding) (more : List (List ℕ))
    → lines (four_lines kind width grounding ++ more)
    ≡ lines (four_lines kind width grounding) ++ lines more
lines_joined kind width grounding more =
    sym (behind_four (line (codes "pbnf-certificate 4")) (line (spaced (codes "kind") kind))
    (line (spaced (codes "width") (decimal width)))
    (line (spaced (codes "grounding") (grounding_name grounding))) (lines more))

-- ---- by the words

module _ (law : TablesAreReadAsWritten) (solve : SolveMeaning) (names : StripsNames)
    (input : solve.input ≡ Strips names) (file : List ℕ) (named : solve.tables ≡ Some file)
    (texts : List (List ℕ)) (stated : List ℕ) (there : slice_get texts 2 ≡ Some stated)
    (text : List ℕ) where
  abbrev StatesFile : (task : TaskParts) → Type 0
  StatesFile task = (rest : List ℕ)
      × (text ≡ lines (four_lines (kind_name (kind_of task)) (width_of task) (grounding_of task))
      ++ (stated ++ rest))

  tables_read : (read : TaskParts × Option TablesValue) → solve_task solve texts ≡ Ok read
      → ReadsTables stated read
  tables_read read is =
      let task = input_task solve.input solve.options 0 texts in
      let same : solve_task solve texts ≡ with_tables_of stated task =
      ap (λ i. with_tables_file i solve.tables texts task) input
      ∙ ap (λ (f : Option (List ℕ)). with_tables_file (Strips names) f texts task) named
      ∙ ap (λ (t : Option (List ℕ)). with_tables_if_loaded t task) there in
      reads_tables stated task read
      (λ one reads. input_kind one solve.input solve.options 0 texts reads ∙ kinds)
      (sym same ∙ is)
    where
      kinds : kind_of_input solve.input ≡ kind.Strips
      kinds = ap kind_of_input input

  states_file : OfTexts solve texts
      (λ choice task. BeginsWithLines (head_of (spelling_of task choice)) text)
      → (task : TaskParts) × (input_task solve.input solve.options 0 texts ≡ Ok task)
      × StatesFile task
  states_file (read, is, (choice, asked, (rest, begins))) =
      let task = read.0 in
      let (tables, given, reads) = tables_read read is in
      let width = width_of task in
      let four = four_lines (kind_name (kind_of task)) width (grounding_of task) in
      let same : choice ≡ Tables tables =
      subst (λ (g : Option TablesValue). IsChoiceAsked solve g task choice) given asked in
      let exact : tables_text width tables ≡ stated = sym ((law.alone width stated tables).0 reads).0 in
      let head : lines (head_of (spelling_of task choice)) ≡ lines four ++ stated =
      ap (λ (c : Choice). lines (head_of (spelling_of task c))) same
      ∙ ap lines (head_by (kind_of task) width tables (grounding_of task))
      ∙ lines_joined (kind_name (kind_of task)) width (grounding_of task) (tables_lines width tables)
      ∙ ap (λ (t : List ℕ). lines four ++ t) exact in (
        task,
        task_read solve texts read is,
        (
          rest,
          begins ∙ ap (λ (t : List ℕ). t ++ rest) head ∙ append_assoc (lines four) stated rest,
        ),
      )

pub certificates_state_their_file : TablesAreReadAsWritten → CertificatesStateTheirChoice
    → CertificatesStateTheirFile
certificates_state_their_file law choice names name file stated text arguments solved are one_run weight two journal estimate tables named kept answered there saved =
    let solve : SolveMeaning = solve_given (Strips names) arguments in
    let of = states_file law solve names refl file tables solved.texts stated there text
    (choice (Strips names) name text arguments solved are one_run weight two journal estimate named kept answered saved) in
    let kinds = input_kind of.0 (Strips names) solve.options 0 solved.texts of.1 in
    let groundings = input_grounding of.0 (Strips names) solve.options 0 solved.texts of.1 in (
      of.0,
      of.1,
      (
        of.2.0,
        of.2.1 ∙ (λ i. lines (four_lines (kind_name (kinds i)) (width_of of.0) (groundings i)) ++ (stated ++ of.2.0)),
      ),
    )
