-- A file that is too long is refused with the line of its own.
use Rattle.std.proofs.Common.{◌≡◌, ℕ, Option, None, Some, Err, List, [], ◌∷◌, ◌++◌, ap}
use Rattle.pb_command.specs.declared.command.InputOptions.{InputOptions}
use Rattle.pb_command.specs.Values.{InputNames, Grid, Tiles, Strips}
use Rattle.pb_command.specs.Files.{input_files, tables_files}
use Rattle.pb_command.specs.Meaning.{Solve, Falling, Check, Journal, Make}
use Rattle.pb_answer.specs.Loaded.{input_task, without_tables, with_tables_file, with_text}
use Rattle.pb_answer.specs.Long.{fault_of, LongFilesAreRefused}

same : (a b : List ℕ) → Some a ≡ Some b → a ≡ b
same a b e = cc

-- the files of a task, read from the first text on
first_files : (input : InputNames) (options : InputOptions) (texts : List (List ℕ)) (report : List ℕ) → fault_of (input_files input) texts ≡ Some report → input_task input options 0 texts ≡ Err report
first_files (Grid names) options [] report is = ap Err (same _ report is)
first_files (Grid names) options (one ∷ []) report is = ap Err (same _ report is)
first_files (Grid names) options (one ∷ (two ∷ rest)) report is = cc
first_files (Tiles board) options [] report is = ap Err (same _ report is)
first_files (Tiles board) options (one ∷ rest) report is = cc
first_files (Strips names) options [] report is = ap Err (same _ report is)
first_files (Strips names) options (one ∷ []) report is = ap Err (same _ report is)
first_files (Strips names) options (one ∷ (two ∷ rest)) report is = cc

-- and behind the text that is judged
behind : (input : InputNames) (options : InputOptions) (text : List ℕ) (texts : List (List ℕ)) (report : List ℕ) → fault_of (input_files input) texts ≡ Some report
    → input_task input options 1 (text ∷ texts) ≡ Err report
behind (Grid names) options text [] report is = ap Err (same _ report is)
behind (Grid names) options text (one ∷ []) report is = ap Err (same _ report is)
behind (Grid names) options text (one ∷ (two ∷ rest)) report is = cc
behind (Tiles board) options text [] report is = ap Err (same _ report is)
behind (Tiles board) options text (one ∷ rest) report is = cc
behind (Strips names) options text [] report is = ap Err (same _ report is)
behind (Strips names) options text (one ∷ []) report is = ap Err (same _ report is)
behind (Strips names) options text (one ∷ (two ∷ rest)) report is = cc

-- the files of a task, and then the file of tables
with_tables : (input : InputNames) (tables : Option (List ℕ)) (options : InputOptions) (texts : List (List ℕ)) (report : List ℕ) → fault_of (input_files input ++ tables_files input tables) texts ≡ Some report
    → with_tables_file input tables texts (input_task input options 0 texts) ≡ Err report
with_tables (Grid names) tables options texts report is = ap without_tables (first_files (Grid names) options texts report is)
with_tables (Tiles board) tables options texts report is = ap without_tables (first_files (Tiles board) options texts report is)
with_tables (Strips names) None options texts report is = ap without_tables (first_files (Strips names) options texts report is)
with_tables (Strips names) (Some file) options [] report is = ap Err (same _ report is)
with_tables (Strips names) (Some file) options (one ∷ []) report is = ap Err (same _ report is)
with_tables (Strips names) (Some file) options (one ∷ (two ∷ [])) report is = ap Err (same _ report is)
with_tables (Strips names) (Some file) options (one ∷ (two ∷ (three ∷ rest))) report is = cc

pub long_files_are_refused : LongFilesAreRefused
long_files_are_refused (Solve solve) texts report is = with_tables solve.input solve.tables solve.options texts report is
long_files_are_refused (Falling falling) texts report is = with_tables falling.solve.input falling.solve.tables falling.solve.options texts report is
long_files_are_refused (Check check) [] report is = ap Err (same _ report is)
long_files_are_refused (Check check) (text ∷ texts) report is = ap (with_text (Some text)) (behind check.input check.options text texts report is)
long_files_are_refused (Journal journal) [] report is = ap Err (same _ report is)
long_files_are_refused (Journal journal) (text ∷ texts) report is = ap (with_text (Some text)) (behind journal.input journal.options text texts report is)
long_files_are_refused (Make make) texts report is = cc
