-- How long the first lines of a certificate are, up to its estimate, whatever the words ask for.
use Rattle.std.proofs.Common.{◌≡◌, ◌≢◌, ◌⊎◌, inl, inr, ℕ, ◌+◌, ◌^◌, ◌≤◌, ◌==◌, Bool, true, false, cond, Option, None, Some, List, length, Ok, refl, sym, ap, subst, arith}
use Rattle.pb_model.specs.Texts.{lines}
use Rattle.pb_task.specs.declared.kind.Kind.TheVariants as kind
use Rattle.pb_task.specs.declared.parts.TaskParts.{TaskParts}
use Rattle.pb_task.specs.declared.parts.TaskParts.TheVariants.{Grid, Tiles, Strips}
use Rattle.pb_task.specs.Groundings.{grounding_of}
use Rattle.pb_task.specs.Kinds.{kind_of}
use Rattle.pb_task.specs.Parts.{IsTask}
use Rattle.pb_task.specs.Widths.{width_of}
use Rattle.pb_task.proofs.Callers.{states_fit_their_width}
use Rattle.pb_tables.specs.Tables.{TablesValue, AreTables}
use Rattle.pb_table_lines.specs.Lines.{tables_text}
use Rattle.pb_table_lines.specs.Reading.{tables_reading}
use Rattle.pb_table_lines.specs.Laws.{TablesAreReadAsWritten}
use Rattle.pb_finder.specs.Sizes.{ListFewImages}
use Rattle.pb_estimate.specs.Choices.{Choice, Plain, Pattern, Tables, choice_with}
use Rattle.pb_estimate.specs.Spelling.{spelling_of, head_of}
use Rattle.pb_command.specs.Meaning.{SolveMeaning, IsSolveInRange}
use Rattle.pb_answer.specs.Searches.{IsChoiceFor}
use Rattle.pb_run.specs.Rooms.{HeadsAreShort}
use Rattle.pb_run.proofs.Lengths.{IsSmallChoice, head_long, head_with_tables_long}
use Rattle.pb_run.proofs.TableLengths.{tables_text_is_short}

-- the first lines of a certificate by this choice have no more bytes than this
abbrev IsHeadWithin : TaskParts → Choice → (most : ℕ) → Type 0
IsHeadWithin parts choice most = length (lines (head_of (spelling_of parts choice))) ≤ most

-- ---- without tables

choice_is_small : (pattern : ℕ) → pattern ≤ 12 → IsSmallChoice (choice_with pattern)
choice_is_small pattern few = go (pattern == 0)
  where
    go : (b : Bool) → IsSmallChoice (cond b Plain (Pattern pattern))
    go true = tt
    go false = omega (arith, few)

head_of_small : (parts : TaskParts) → IsTask parts → (choice : Choice) → IsSmallChoice choice
    → IsHeadWithin parts choice 114
head_of_small parts lawful choice small =
    let width = (states_fit_their_width parts lawful).1 in
    head_long (spelling_of parts choice) (omega (arith, width)) small

head_by_pattern : (solve : SolveMeaning) (parts : TaskParts) → IsSolveInRange solve → IsTask parts
    → (choice : Choice) → choice ≡ choice_with solve.settings.pattern
    → IsHeadWithin parts choice 114
head_by_pattern solve parts range lawful choice same =
    subst (λ (c : Choice). IsHeadWithin parts c 114) (sym same)
    (head_of_small parts lawful (choice_with solve.settings.pattern)
    (choice_is_small solve.settings.pattern range.settings.pattern))

-- no tables are looked for of a map or a board
of_other_kind : (effort : Option ℕ) (pattern : ℕ) (parts : TaskParts) → kind_of parts ≢ kind.Strips
    → (choice : Choice) → IsChoiceFor effort pattern parts choice → choice ≡ choice_with pattern
of_other_kind None pattern parts other choice asked = asked
of_other_kind (Some effort) pattern (Grid grid) other choice asked = asked
of_other_kind (Some effort) pattern (Tiles tiles) other choice asked = asked
of_other_kind (Some effort) pattern (Strips strips) other choice asked = absurd (other refl)

-- ---- with tables

-- The version is 4, whatever the grounding. The lines of the tables have so many bytes.
head_by_tables : (parts : TaskParts) → IsTask parts → (tables : TablesValue) (bytes : ℕ)
    → length (tables_text (width_of parts) tables) ≤ bytes
    → IsHeadWithin parts (Tables tables) (77 + bytes)
head_by_tables parts lawful tables bytes short =
    let width = (states_fit_their_width parts lawful).1 in
    head_with_tables_long (kind_of parts) (grounding_of parts) (width_of parts) tables bytes
    (omega (arith, width)) short

head_of_tables : (parts : TaskParts) → IsTask parts → (tables : TablesValue) → AreTables tables
    → ListFewImages tables → IsHeadWithin parts (Tables tables) (2 ^ 40)
head_of_tables parts lawful tables are few =
    let width = (states_fit_their_width parts lawful).1 in
    let all = head_by_tables parts lawful tables (2 ^ 39)
    (tables_text_is_short (width_of parts) tables width are few) in
    omega (arith, all)

-- tables of a file are stated by the text of the file
head_of_file : TablesAreReadAsWritten → (parts : TaskParts) → IsTask parts
    → (tables : TablesValue) (text : List ℕ) → tables_reading (width_of parts) text ≡ Ok tables
    → IsHeadWithin parts (Tables tables) (114 + length text)
head_of_file law parts lawful tables text reads =
    let same = ap length ((law.alone (width_of parts) text tables).0 reads).0 in
    let all = head_by_tables parts lawful tables (length text) (omega (arith, same)) in
    omega (arith, all)

-- ---- all of it

heads_by : (solve : SolveMeaning) (parts : TaskParts) → IsSolveInRange solve → IsTask parts
    → (choice : Choice) (effort : Option ℕ)
    → IsChoiceFor effort solve.settings.pattern parts choice → IsHeadWithin parts choice (2 ^ 40)
heads_by solve parts range lawful choice effort asked = go effort parts lawful asked
  where
    given : (task : TaskParts) → IsTask task → choice ≡ choice_with solve.settings.pattern
        → IsHeadWithin task choice (2 ^ 40)
    given task is same =
        let short = head_by_pattern solve task range is choice same in omega (arith, short)

    found : (task : TaskParts) → IsTask task → (choice ≡ Plain)
        ⊎ ((tables : TablesValue) × (choice ≡ Tables tables) × AreTables tables
        × ListFewImages tables)
        → IsHeadWithin task choice (2 ^ 40)
    found task is (inl plain) =
        let short = head_of_small task is Plain tt in
        subst (λ (c : Choice). IsHeadWithin task c (2 ^ 40)) (sym plain) (omega (arith, short))
    found task is (inr (tables, same, are, few)) =
        subst (λ (c : Choice). IsHeadWithin task c (2 ^ 40)) (sym same)
        (head_of_tables task is tables are few)

    go : (effort : Option ℕ) (task : TaskParts) → IsTask task
        → IsChoiceFor effort solve.settings.pattern task choice
        → IsHeadWithin task choice (2 ^ 40)
    go None task is asked = given task is asked
    go (Some effort) (Grid grid) is asked = given (Grid grid) is asked
    go (Some effort) (Tiles tiles) is asked = given (Tiles tiles) is asked
    go (Some effort) (Strips strips) is (inl plain) = found (Strips strips) is (inl plain)
    go (Some effort) (Strips strips) is (inr (tables, same, are, suits, few)) =
        found (Strips strips) is (inr (tables, same, are, few))

pub heads_are_short : TablesAreReadAsWritten → HeadsAreShort
heads_are_short law = record {
  without = λ solve parts none range lawful choice asked.
      head_by_pattern solve parts range lawful choice
      (subst (λ (effort : Option ℕ). IsChoiceFor effort solve.settings.pattern parts choice) none asked);
  other_kinds = λ solve parts other range lawful choice asked.
      head_by_pattern solve parts range lawful choice
      (of_other_kind solve.effort solve.settings.pattern parts other choice asked);
  all = λ solve parts range lawful choice asked.
      heads_by solve parts range lawful choice solve.effort asked;
  of_file = λ solve parts tables text reads lawful choice same.
      subst (λ (c : Choice). IsHeadWithin parts c (114 + length text)) (sym same)
      (head_of_file law parts lawful tables text reads);
}
