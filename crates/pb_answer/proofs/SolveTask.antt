-- What the texts of `solve` give: the task that its files spell, and the tables of a file, which
-- suit it. `pb_run` cites this module.
use Rattle.std.proofs.Common.{◌≡◌, ℕ, Option, None, Some, is_none, List, slice_get, Result, Ok, Err, refl, sym, ap, subst}
use Rattle.std.specs.Prelude.{⊤}
use Rattle.pb_task.specs.declared.parts.TaskParts.{TaskParts}
use Rattle.pb_task.specs.declared.parts.TaskParts.TheVariants as parts
use Rattle.pb_task.specs.declared.parts.StripsParts.{StripsParts}
use Rattle.pb_task.specs.Widths.{width_of}
use Rattle.pb_tables.specs.declared.fault.TablesFault.{TablesFault}
use Rattle.pb_tables.specs.Tables.{TablesValue}
use Rattle.pb_tables.specs.Suits.{tables_fault}
use Rattle.pb_table_lines.specs.Reading.{tables_reading}
use Rattle.pb_command.specs.Values.{InputNames, Grid, Tiles, Strips}
use Rattle.pb_command.specs.Meaning.{SolveMeaning}
use Rattle.pb_answer.specs.Loaded.{too_long, input_task, suiting_told, tables_told, with_its_tables, without_tables, with_tables_of, with_tables_if_loaded, with_tables_file, solve_task}
use Rattle.pb_answer.proofs.Asked.{Suit}
use Rattle.pb_answer.proofs.Results.{not_fault, same_value}

-- a task that is read, with the tables of a file or without
abbrev pub ReadTask : Type 0
ReadTask = TaskParts × Option TablesValue

-- the task is the one that was read, and the tables suit it
abbrev pub IsReadOf : Result TaskParts (List ℕ) → ReadTask → Type 0
IsReadOf task read = (task ≡ Ok read.0) × Suit read.0 read.1

-- ---- what was read

-- what holds of a value that was read holds of the same value
module _ (P : ReadTask → Type 0) (one : ReadTask) (holds : P one) (read : ReadTask) where
  of_same : ◌≡◌ {A = Result ReadTask (List ℕ)} (Ok one) (Ok read) → P read
  of_same e = subst P (same_value one read e) holds

alone_reads : (task : Result TaskParts (List ℕ)) (read : ReadTask) → without_tables task ≡ Ok read
    → IsReadOf task read × (read.1 ≡ None)
alone_reads (Ok task) read e =
    of_same (λ (r : ReadTask). IsReadOf (Ok task) r × (r.1 ≡ None)) (task, None) ((refl, tt), refl)
    read e
alone_reads (Err report) read e = not_fault read report (sym e)

tables_read : (strips : StripsParts) (reading : Result TablesValue ℕ) (read : ReadTask)
    → with_its_tables (parts.Strips strips) (tables_told strips reading) ≡ Ok read
    → IsReadOf (Ok (parts.Strips strips)) read
tables_read strips (Ok tables) read e = at (tables_fault strips tables) refl e
  where
    at : (fault : Option TablesFault) → tables_fault strips tables ≡ fault
        → with_its_tables (parts.Strips strips) (suiting_told tables fault) ≡ Ok read
        → IsReadOf (Ok (parts.Strips strips)) read
    at None is f =
        of_same (λ (r : ReadTask). IsReadOf (Ok (parts.Strips strips)) r)
        (parts.Strips strips, Some tables)
        (refl, ap (λ (fault : Option TablesFault). is_none fault) is) read f
    at (Some fault) is f = not_fault read _ (sym f)
tables_read strips (Err line) read e = not_fault read _ (sym e)

text_reads : (text : List ℕ) (task : Result TaskParts (List ℕ)) (read : ReadTask)
    → with_tables_of text task ≡ Ok read → IsReadOf task read
text_reads text (Ok (parts.Grid grid)) read e =
    of_same (λ (r : ReadTask). IsReadOf (Ok (parts.Grid grid)) r) (parts.Grid grid, None)
    (refl, tt) read e
text_reads text (Ok (parts.Tiles tiles)) read e =
    of_same (λ (r : ReadTask). IsReadOf (Ok (parts.Tiles tiles)) r) (parts.Tiles tiles, None)
    (refl, tt) read e
text_reads text (Ok (parts.Strips strips)) read e =
    tables_read strips (tables_reading (width_of (parts.Strips strips)) text) read e
text_reads text (Err report) read e = not_fault read report (sym e)

loaded_reads : (text : Option (List ℕ)) (task : Result TaskParts (List ℕ)) (read : ReadTask)
    → with_tables_if_loaded text task ≡ Ok read → IsReadOf task read
loaded_reads None task read e = not_fault read too_long (sym e)
loaded_reads (Some text) task read e = text_reads text task read e

-- No file of tables is looked at: the words name none, or the task is a map or a board.
abbrev pub HasNoFile : InputNames → (tables : Option (List ℕ)) → Type 0
HasNoFile (Grid names) tables = ⊤
HasNoFile (Tiles board) tables = ⊤
HasNoFile (Strips names) None = ⊤
HasNoFile (Strips names) (Some file) = ⊥

-- so it is if the words name none
pub no_file : (input : InputNames) (tables : Option (List ℕ)) → tables ≡ None → HasNoFile input tables
no_file (Grid names) tables none = tt
no_file (Tiles board) tables none = tt
no_file (Strips names) None none = tt
no_file (Strips names) (Some file) none = cc

file_reads : (input : InputNames) (tables : Option (List ℕ)) (texts : List (List ℕ))
    (task : Result TaskParts (List ℕ)) (read : ReadTask)
    → with_tables_file input tables texts task ≡ Ok read
    → IsReadOf task read × (HasNoFile input tables → read.1 ≡ None)
file_reads (Grid names) tables texts task read e =
    let is = alone_reads task read e in (is.0, λ none. is.1)
file_reads (Tiles board) tables texts task read e =
    let is = alone_reads task read e in (is.0, λ none. is.1)
file_reads (Strips names) None texts task read e =
    let is = alone_reads task read e in (is.0, λ none. is.1)
file_reads (Strips names) (Some file) texts task read e =
    (loaded_reads (slice_get texts 2) task read e, λ none. absurd none)

module _ (solve : SolveMeaning) (texts : List (List ℕ)) (read : ReadTask)
    (is : solve_task solve texts ≡ Ok read) where
  reads : IsReadOf (input_task solve.input solve.options 0 texts) read
      × (HasNoFile solve.input solve.tables → read.1 ≡ None)
  reads = file_reads solve.input solve.tables texts
      (input_task solve.input solve.options 0 texts) read is

  -- the task is the one that its files spell
  pub task_read : input_task solve.input solve.options 0 texts ≡ Ok read.0
  task_read = reads.0.0

  -- without a file there are none
  pub none_given : HasNoFile solve.input solve.tables → read.1 ≡ None
  none_given = reads.1
