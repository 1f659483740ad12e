-- The files that a command loads, in one list that is made of its arguments: of each file its name,
-- how many bytes it may have, and the line that is printed if it has more. A further file is one
-- entry more.
use Rattle.std.specs.Prelude.{ℕ, List, [], ◌∷◌, ◌++◌, Option, Some, map, codes}
use Rattle.clap.specs.Words.{Text}
use Rattle.pb_command.specs.Values.{InputNames, Strips}
use Rattle.pb_command.specs.Meaning.{Meaning, Solve, Falling, Check, Journal, Make, SolveMeaning}
use Rattle.pb_command.specs.Options.{file_words}
use Rattle.pb_command.specs.declared.files.LoadedFile.{LoadedFile as FileOfCode}

pub record LoadedFile : Type 0 where
  pub name : Text
  pub most : ℕ
  pub fault : Text

abbrev pub file_meant : FileOfCode → LoadedFile
file_meant f = record { name = f.name.now; most = f.most; fault = f.fault.now }

-- how many bytes a file of a task may have: 16 MiB
abbrev pub longest_input : ℕ
longest_input = 16777216

-- how many bytes a certificate may have that is to be checked, a journal that is to be judged, and
-- a file of tables: 1 GiB
abbrev pub longest_record : ℕ
longest_record = 1073741824

-- what is printed if a file is too long, whichever it is
abbrev pub too_long : Text
too_long = codes "input TooLong"

abbrev pub input_file : Text → LoadedFile
input_file name = record { name = name; most = longest_input; fault = too_long }

abbrev pub record_file : Text → LoadedFile
record_file name = record { name = name; most = longest_record; fault = too_long }

-- the files of a task, in the order of the words
abbrev pub input_files : InputNames → List LoadedFile
input_files input = map input_file (file_words input)

-- the file of tables, if one is given: for a STRIPS problem alone
abbrev pub tables_files : InputNames → (tables : Option Text) → List LoadedFile
tables_files (Strips names) (Some file) = record_file file ∷ []
tables_files _ _ = []

-- the files of the task, and then the file of tables
abbrev pub solve_files : SolveMeaning → List LoadedFile
solve_files solve = input_files solve.input ++ tables_files solve.input solve.tables

abbrev pub loaded_files : Meaning → List LoadedFile
loaded_files (Solve solve) = solve_files solve
loaded_files (Falling falling) = solve_files falling.solve
loaded_files (Check check) = record_file check.certificate ∷ input_files check.input
loaded_files (Journal journal) = record_file journal.journal ∷ input_files journal.input
loaded_files (Make make) = []
