-- What a command reads of its options, in whatever order its words come. Names, ranges and defaults
-- are those of the table.
use Rattle.std.specs.Prelude.{◌≡◌, ◌≤◌, ◌<◌, ℕ, List, [], ◌∷◌, ◌++◌, ◌||◌, ◌⊎◌, Bool, true, false, Option, None, Some, option_map, if◌then◌else◌, codes}
use Rattle.std.specs.List.{AllByRecursion, list_any}
use Rattle.std.specs.Option.{option_map_or}
use Rattle.std.specs.Str.{bytes_eq}
use Rattle.std.specs.Str.Parse.{digits_value, without_leading_plus}
use Rattle.clap.specs.Words.{Text}
use Rattle.clap.specs.ValueTests.{is_unsigned_in}
use Rattle.pb_task.specs.declared.kind.Kind.{Kind}
use Rattle.pb_task.specs.declared.kind.Kind.TheVariants as kind
use Rattle.pb_task.specs.Kinds.{kind_name}
use Rattle.pb_machine.specs.declared.settings.Settings.{Settings}
use Rattle.pb_machine.specs.Settings.{standard}
use Rattle.pb_command.specs.declared.command.Engine.{Engine}
use Rattle.pb_command.specs.declared.command.Engine.TheVariants.{Leases, Owners}
use Rattle.pb_command.specs.declared.command.InputOptions.{InputOptions}
use Rattle.pb_command.specs.declared.table.ValuedOption.{ValuedOption}
use Rattle.pb_command.specs.declared.table.ValuedOption.TheVariants.{Workers, Engine as EngineOption, Num, Den, Pattern, Estimate, Effort, Tables, Certificate, Journal, Rewrite, Falling}
use Rattle.pb_command.specs.declared.table.FlagOption.{FlagOption}
use Rattle.pb_command.specs.Names.{IsName}
use Rattle.pb_command.specs.Table.{Form, Number, OptionalNumber, FileName, OneOf, option_name, option_form, flag_name, is_value, solve_options, solve_flags, check_options, check_flags, journal_options, journal_flags, make_options}
use Rattle.pb_command.specs.Values.{InputNames, Grid, Tiles, Strips, engine_of, effort_of}
use Rattle.pb_command.specs.Meaning.{Read, Refused, Solve, SolveMeaning, Falling as FallingCommand, Check, Journal as JournalCommand, Make, options_by, journal_options_by, settings_by, reading_of_words}
use Rattle.pb_command.specs.declared.refusal.CommandFault.TheVariants as fault

-- the word that an option is given by: `--` before its name
abbrev pub option_word : ValuedOption → Text
option_word option = codes "--" ++ option_name option

abbrev pub flag_word : FlagOption → Text
flag_word flag = codes "--" ++ flag_name flag

-- options are told apart by their names
abbrev pub is_same : ValuedOption → ValuedOption → Bool
is_same option other = bytes_eq (option_name other) (option_name option)

abbrev pub is_same_flag : FlagOption → FlagOption → Bool
is_same_flag flag other = bytes_eq (flag_name other) (flag_name flag)

-- an argument of a command: a word that is known by its place, an option with its value, or a flag
pub data Argument : Type 0 where
  Placed : Text → Argument
  Valued : ValuedOption → Text → Argument
  Flag : FlagOption → Argument

-- the words of arguments
abbrev pub words_of : List Argument → List Text
words_of [] = []
words_of (Placed word ∷ rest) = word ∷ words_of rest
words_of (Valued option value ∷ rest) = option_word option ∷ value ∷ words_of rest
words_of (Flag flag ∷ rest) = flag_word flag ∷ words_of rest

-- the words that are known by their places, in order
abbrev pub placed_words : List Argument → List Text
placed_words [] = []
placed_words (Placed word ∷ rest) = word ∷ placed_words rest
placed_words (Valued option value ∷ rest) = placed_words rest
placed_words (Flag flag ∷ rest) = placed_words rest

-- the value that the option is given, if it is
abbrev pub value_given : ValuedOption → List Argument → Option Text
value_given option [] = None
value_given option (Placed word ∷ rest) = value_given option rest
value_given option (Valued other value ∷ rest) =
    if is_same option other then Some value else value_given option rest
value_given option (Flag flag ∷ rest) = value_given option rest

-- whether the flag is given
abbrev pub flag_given : FlagOption → List Argument → Bool
flag_given flag [] = false
flag_given flag (Placed word ∷ rest) = flag_given flag rest
flag_given flag (Valued option value ∷ rest) = flag_given flag rest
flag_given flag (Flag other ∷ rest) = is_same_flag flag other || flag_given flag rest

-- the number that a value of decimal digits writes
abbrev pub number_of : Text → ℕ
number_of value = digits_value 10 (without_leading_plus value)

-- The number that a value of this form writes, and else the default. The least number stands for
-- an option that has no default, and `falling_given` reads that one.
abbrev pub number_by : Form → Option Text → ℕ
number_by (Number range) given = option_map_or number_of given range.default
number_by (OptionalNumber least most) given = least
number_by FileName given = 0
number_by (OneOf words) given = 0

-- the number that the option is given, and else its default
abbrev pub number_given : ValuedOption → List Argument → ℕ
number_given option arguments = number_by (option_form option) (value_given option arguments)

-- what the options that are given say of how files are read
abbrev pub options_given : List Argument → InputOptions
options_given arguments =
    options_by (λ option. number_given option arguments) (λ flag. flag_given flag arguments)

-- the same for `journal`, which has no flag for swamp
abbrev pub journal_options_given : List Argument → InputOptions
journal_options_given arguments = journal_options_by (λ option. number_given option arguments)
    (λ flag. flag_given flag arguments)

-- and what a search is run with
abbrev pub settings_given : List Argument → Settings
settings_given arguments =
    settings_by (λ option. number_given option arguments) (λ flag. flag_given flag arguments)

-- the engine whose word is given, and else the default
abbrev pub engine_given : List Argument → Engine
engine_given arguments = engine_of (value_given EngineOption arguments)

-- how much is looked at to find tables for the estimate, if their word is given
abbrev pub effort_given : List Argument → Option ℕ
effort_given arguments =
    effort_of (value_given Estimate arguments) (number_given Effort arguments)

-- in how many steps the weight falls, if that is given
abbrev pub falling_given : List Argument → Option ℕ
falling_given arguments = option_map number_of (value_given Falling arguments)

-- no option and no flag is given twice
abbrev pub AreDistinct : List Argument → Type 0
AreDistinct [] = Unit {0}
AreDistinct (Placed word ∷ rest) = AreDistinct rest
AreDistinct (Valued option value ∷ rest) = (value_given option rest ≡ None) × AreDistinct rest
AreDistinct (Flag flag ∷ rest) = (flag_given flag rest ≡ false) × AreDistinct rest

-- whether a text is a value of the option
abbrev pub is_value_of : ValuedOption → Text → Bool
is_value_of option value = is_value (option_form option) value

-- an argument of a command that has these options and these flags
abbrev pub IsArgumentOf : (takes : ValuedOption → Bool) → (takes_flag : FlagOption → Bool)
    → Argument → Type 0
IsArgumentOf takes takes_flag (Placed word) = IsName word
IsArgumentOf takes takes_flag (Valued option value) =
    (takes option ≡ true) × IsName value × (is_value_of option value ≡ true)
IsArgumentOf takes takes_flag (Flag flag) = takes_flag flag ≡ true

-- whether the option is one of these
abbrev pub has : List ValuedOption → ValuedOption → Bool
has options option = list_any (λ other. is_same other option) options

abbrev pub has_flag : List FlagOption → FlagOption → Bool
has_flag flags flag = list_any (λ other. is_same_flag other flag) flags

abbrev pub is_of_solve : ValuedOption → Bool
is_of_solve = has solve_options

abbrev pub is_of_check : ValuedOption → Bool
is_of_check = has check_options

abbrev pub is_of_journal : ValuedOption → Bool
is_of_journal = has journal_options

abbrev pub is_of_make : ValuedOption → Bool
is_of_make = has make_options

abbrev pub is_flag_of_solve : FlagOption → Bool
is_flag_of_solve = has_flag solve_flags

abbrev pub is_flag_of_check : FlagOption → Bool
is_flag_of_check = has_flag check_flags

abbrev pub is_flag_of_journal : FlagOption → Bool
is_flag_of_journal = has_flag journal_flags

-- a command with no flag, as `make`
abbrev pub no_flag : FlagOption → Bool
no_flag _ = false

-- the kind of a task, its word, and the names of its files
abbrev pub kind_of_input : InputNames → Kind
kind_of_input (Grid names) = kind.Grid
kind_of_input (Tiles board) = kind.Tiles
kind_of_input (Strips names) = kind.Strips

abbrev pub kind_word : InputNames → Text
kind_word input = kind_name (kind_of_input input)

abbrev pub file_words : InputNames → List Text
file_words (Grid names) = names.map ∷ names.scenario ∷ []
file_words (Tiles board) = board ∷ []
file_words (Strips names) = names.domain ∷ names.problem ∷ []

-- arguments of `solve`: its kind and its files in their places, and options anywhere among them,
-- none twice
pub record AreOfSolve (input : InputNames) (arguments : List Argument) : Type 0 where
  pub each : AllByRecursion (IsArgumentOf is_of_solve is_flag_of_solve) arguments
  pub distinct : AreDistinct arguments
  pub placed : placed_words arguments ≡ kind_word input ∷ file_words input

-- certificate and journal are not given one name
abbrev pub HaveTwoNames : List Argument → Type 0
HaveTwoNames arguments =
    (name : Text) → value_given Certificate arguments ≡ Some name
    → value_given Journal arguments ≡ Some name → ⊥

-- no journal is asked for of the engine that keeps none
abbrev pub HaveKeptJournal : List Argument → Type 0
HaveKeptJournal arguments = engine_given arguments ≡ Owners → value_given Journal arguments ≡ None

-- no pattern database is asked for beside tables, and beside a file of tables neither a pattern
-- database nor tables that are looked for
abbrev pub HaveOneEstimate : List Argument → Type 0
HaveOneEstimate arguments =
    (value_given Estimate arguments ≡ Some (codes "tables") → number_given Pattern arguments ≡ 0)
    × ((file : Text) → value_given Tables arguments ≡ Some file
    → (number_given Pattern arguments ≡ 0) × (value_given Estimate arguments ≡ None))

-- if falling weights are asked for, the engine has them, and no journal is
abbrev pub HaveFittingFalling : List Argument → Type 0
HaveFittingFalling arguments = (steps : Text) → value_given Falling arguments ≡ Some steps
    → (engine_given arguments ≡ Leases) × (value_given Journal arguments ≡ None)

-- no falling weights are asked for
abbrev pub HaveOneRun : List Argument → Type 0
HaveOneRun arguments = value_given Falling arguments ≡ None

-- what `solve` is given: the task, and the values of its options
abbrev pub solve_given : InputNames → List Argument → SolveMeaning
solve_given input arguments = record {
  input = input;
  options = options_given arguments;
  settings = settings_given arguments;
  engine = engine_given arguments;
  effort = effort_given arguments;
  tables = value_given Tables arguments;
  certificate = value_given Certificate arguments;
  journal = value_given Journal arguments;
}

-- `solve` with the kind and its files, and with options other than `--falling` anywhere among them,
-- searches this task with their values.
abbrev pub SolveReadsOptions : Type 0
SolveReadsOptions = (input : InputNames) (arguments : List Argument) → AreOfSolve input arguments
    → HaveOneRun arguments
    → number_given Den arguments ≤ number_given Num arguments → HaveTwoNames arguments
    → HaveKeptJournal arguments → HaveOneEstimate arguments
    → reading_of_words (codes "solve" ∷ words_of arguments)
    ≡ Read (Solve (solve_given input arguments))

-- With `--falling` among them, for the engine that has falling weights and without a journal, it
-- searches this task at weights that fall in so many steps.
abbrev pub FallingReadsOptions : Type 0
FallingReadsOptions =
    (input : InputNames) (steps : Text) (arguments : List Argument) → AreOfSolve input arguments
    → value_given Falling arguments ≡ Some steps
    → number_given Den arguments ≤ number_given Num arguments → engine_given arguments ≡ Leases
    → value_given Journal arguments ≡ None → HaveOneEstimate arguments
    → reading_of_words (codes "solve" ∷ words_of arguments) ≡ Read (FallingCommand (record {
      solve = solve_given input arguments;
      steps = number_of steps;
    }))

-- Without options, the settings are the standard ones.
abbrev pub DefaultsAreStandard : Type 0
DefaultsAreStandard = settings_given [] ≡ standard

-- And the search is by leases.
abbrev pub DefaultEngineIsLeases : Type 0
DefaultEngineIsLeases = engine_given [] ≡ Leases

-- The values of `--engine` are these two words.
abbrev pub EngineHasTwoWords : Type 0
EngineHasTwoWords =
    (word : Text) → (is_value_of EngineOption word ≡ true
    → (word ≡ codes "pbnf") ⊎ (word ≡ codes "hda"))
    × ((word ≡ codes "pbnf") ⊎ (word ≡ codes "hda") → is_value_of EngineOption word ≡ true)

-- That of `--estimate` is this word alone.
abbrev pub EstimateHasOneWord : Type 0
EstimateHasOneWord =
    (word : Text) → (is_value_of Estimate word ≡ true → word ≡ codes "tables")
    × (word ≡ codes "tables" → is_value_of Estimate word ≡ true)

-- With this word, the effort is the number of `--effort`.
abbrev pub TablesHaveEffort : Type 0
TablesHaveEffort =
    (arguments : List Argument) → value_given Estimate arguments ≡ Some (codes "tables")
    → effort_given arguments ≡ Some (number_given Effort arguments)

-- And without `--estimate` there is none, whatever `--effort` is given.
abbrev pub EffortIsOfTables : Type 0
EffortIsOfTables = (arguments : List Argument) → value_given Estimate arguments ≡ None
    → effort_given arguments ≡ None

-- A weight below 1 is refused, wherever the options are.
abbrev pub LowWeightIsRefused : Type 0
LowWeightIsRefused = (input : InputNames) (arguments : List Argument) → AreOfSolve input arguments
    → number_given Num arguments < number_given Den arguments
    → reading_of_words (codes "solve" ∷ words_of arguments) ≡ Refused fault.Weight

-- And if the weight isn't below 1, one name for the certificate and the journal is refused.
abbrev pub OneNameIsRefused : Type 0
OneNameIsRefused =
    (input : InputNames) (name : Text) (arguments : List Argument) → AreOfSolve input arguments
    → number_given Den arguments ≤ number_given Num arguments
    → value_given Certificate arguments ≡ Some name → value_given Journal arguments ≡ Some name
    → reading_of_words (codes "solve" ∷ words_of arguments) ≡ Refused fault.Names

-- And if the names are two, a journal of the engine that keeps none is refused.
abbrev pub JournalOfOwnersIsRefused : Type 0
JournalOfOwnersIsRefused =
    (input : InputNames) (name : Text) (arguments : List Argument) → AreOfSolve input arguments
    → number_given Den arguments ≤ number_given Num arguments → HaveTwoNames arguments
    → value_given EngineOption arguments ≡ Some (codes "hda")
    → value_given Journal arguments ≡ Some name
    → reading_of_words (codes "solve" ∷ words_of arguments) ≡ Refused fault.Engine

-- And so are falling weights of the engine that has none, whether a journal is asked for or not.
abbrev pub FallingOfOwnersIsRefused : Type 0
FallingOfOwnersIsRefused =
    (input : InputNames) (steps : Text) (arguments : List Argument) → AreOfSolve input arguments
    → number_given Den arguments ≤ number_given Num arguments → HaveTwoNames arguments
    → value_given EngineOption arguments ≡ Some (codes "hda")
    → value_given Falling arguments ≡ Some steps
    → reading_of_words (codes "solve" ∷ words_of arguments) ≡ Refused fault.Engine

-- And if the engine has falling weights, a journal of them is refused.
abbrev pub FallingWithJournalIsRefused : Type 0
FallingWithJournalIsRefused =
    (input : InputNames) (steps name : Text) (arguments : List Argument)
    → AreOfSolve input arguments → number_given Den arguments ≤ number_given Num arguments
    → HaveTwoNames arguments → engine_given arguments ≡ Leases
    → value_given Falling arguments ≡ Some steps → value_given Journal arguments ≡ Some name
    → reading_of_words (codes "solve" ∷ words_of arguments) ≡ Refused fault.Falling

-- And if all of these pass, with falling weights or without, a pattern database beside tables is
-- refused.
abbrev pub PatternOfEstimateIsRefused : Type 0
PatternOfEstimateIsRefused =
    (input : InputNames) (arguments : List Argument) → AreOfSolve input arguments
    → number_given Den arguments ≤ number_given Num arguments → HaveTwoNames arguments
    → HaveKeptJournal arguments → HaveFittingFalling arguments
    → value_given Estimate arguments ≡ Some (codes "tables")
    → 1 ≤ number_given Pattern arguments
    → reading_of_words (codes "solve" ∷ words_of arguments) ≡ Refused fault.Estimate

-- And so is a pattern database beside a file of tables.
abbrev pub PatternBesideFileIsRefused : Type 0
PatternBesideFileIsRefused =
    (input : InputNames) (file : Text) (arguments : List Argument) → AreOfSolve input arguments
    → number_given Den arguments ≤ number_given Num arguments → HaveTwoNames arguments
    → HaveKeptJournal arguments → HaveFittingFalling arguments
    → value_given Tables arguments ≡ Some file → 1 ≤ number_given Pattern arguments
    → reading_of_words (codes "solve" ∷ words_of arguments) ≡ Refused fault.Estimate

-- And so are tables that are looked for, beside a file of tables, whatever `--pattern` is given.
abbrev pub EstimateBesideFileIsRefused : Type 0
EstimateBesideFileIsRefused =
    (input : InputNames) (file : Text) (arguments : List Argument) → AreOfSolve input arguments
    → number_given Den arguments ≤ number_given Num arguments → HaveTwoNames arguments
    → HaveKeptJournal arguments → HaveFittingFalling arguments
    → value_given Tables arguments ≡ Some file
    → value_given Estimate arguments ≡ Some (codes "tables")
    → reading_of_words (codes "solve" ∷ words_of arguments) ≡ Refused fault.Estimate

-- the name is one of these
abbrev pub IsAmong : Text → List Text → Type 0
IsAmong name [] = ⊥
IsAmong name (other ∷ others) = (name ≡ other) ⊎ IsAmong name others

-- the name that `--rewrite` is given, if it is, is of no file that is loaded
abbrev pub HasNewName : InputNames → (certificate : Text) → List Argument → Type 0
HasNewName input certificate arguments =
    (name : Text) → value_given Rewrite arguments ≡ Some name
    → IsAmong name (certificate ∷ file_words input) → ⊥

-- `check` with the kind, the certificate and the files, and with options anywhere among them,
-- checks that certificate for this task with their values.
abbrev pub CheckReadsOptions : Type 0
CheckReadsOptions =
    (input : InputNames) (certificate : Text) (arguments : List Argument)
    → AllByRecursion (IsArgumentOf is_of_check is_flag_of_check) arguments → AreDistinct arguments
    → placed_words arguments ≡ kind_word input ∷ certificate ∷ file_words input
    → HasNewName input certificate arguments
    → reading_of_words (codes "check" ∷ words_of arguments) ≡ Read (Check (record {
      input = input;
      certificate = certificate;
      options = options_given arguments;
      workers = number_given Workers arguments;
      rewrite = value_given Rewrite arguments;
    }))

-- A name for the new certificate that a file has which is loaded is refused.
abbrev pub LoadedNameIsRefused : Type 0
LoadedNameIsRefused =
    (input : InputNames) (certificate name : Text) (arguments : List Argument)
    → AllByRecursion (IsArgumentOf is_of_check is_flag_of_check) arguments → AreDistinct arguments
    → placed_words arguments ≡ kind_word input ∷ certificate ∷ file_words input
    → value_given Rewrite arguments ≡ Some name
    → IsAmong name (certificate ∷ file_words input)
    → reading_of_words (codes "check" ∷ words_of arguments) ≡ Refused fault.Names

-- `journal` with the kind, the journal and the files, and with options anywhere among them, checks
-- that journal for this task with their values.
abbrev pub JournalReadsOptions : Type 0
JournalReadsOptions =
    (input : InputNames) (journal : Text) (arguments : List Argument)
    → AllByRecursion (IsArgumentOf is_of_journal is_flag_of_journal) arguments
    → AreDistinct arguments → placed_words arguments ≡ kind_word input ∷ journal ∷ file_words input
    → reading_of_words (codes "journal" ∷ words_of arguments) ≡ Read (JournalCommand (record {
      input = input;
      journal = journal;
      options = journal_options_given arguments;
    }))

-- a grid has a side from 1 to 2,048, a board from 0 to 1,000,000 moves, and a STRIPS problem from 1
-- to 14 blocks
abbrev pub IsSizeOf : Kind → ℕ → Type 0
IsSizeOf kind.Grid n = (1 ≤ n) × (n ≤ 2048)
IsSizeOf kind.Tiles n = n ≤ 1000000
IsSizeOf kind.Strips n = (1 ≤ n) × (n ≤ 14)

-- arguments of `make`: the kind, a seed from 0 to 2^32 - 1 and a number below 2^64 in their places,
-- and the number of workers anywhere among them, once at most
pub record AreOfMake (k : Kind) (seed size : Text) (arguments : List Argument) : Type 0 where
  pub each : AllByRecursion (IsArgumentOf is_of_make no_flag) arguments
  pub distinct : AreDistinct arguments
  pub placed : placed_words arguments ≡ kind_name k ∷ seed ∷ size ∷ []
  pub seed_fits : is_unsigned_in 0 4294967295 seed ≡ true
  pub size_fits : is_unsigned_in 0 18446744073709551615 size ≡ true

-- `make` with a kind, a seed and a size that the kind has makes that task.
abbrev pub MakeReadsOptions : Type 0
MakeReadsOptions =
    (k : Kind) (seed size : Text) (arguments : List Argument) → AreOfMake k seed size arguments
    → IsSizeOf k (number_of size)
    → reading_of_words (codes "make" ∷ words_of arguments) ≡ Read (Make (record {
      kind = k;
      seed = number_of seed;
      size = number_of size;
      workers = number_given Workers arguments;
    }))

-- A size that the kind doesn't have is refused.
abbrev pub OtherSizeIsRefused : Type 0
OtherSizeIsRefused =
    (k : Kind) (seed size : Text) (arguments : List Argument) → AreOfMake k seed size arguments
    → (IsSizeOf k (number_of size) → ⊥)
    → reading_of_words (codes "make" ∷ words_of arguments) ≡ Refused fault.Size

-- An option is refused for its form if its number isn't in its range, or its word is none of its
-- words.
abbrev pub OutOfRangeIsRefused : Type 0
OutOfRangeIsRefused = (input : InputNames) (arguments : List Argument) → AreOfSolve input arguments
    → (option : ValuedOption) (value : Text) → IsName value → is_value_of option value ≡ false
    → reading_of_words (codes "solve" ∷ words_of arguments ++ option_word option ∷ value ∷ [])
    ≡ Refused fault.Form

-- An option that is given twice is refused for its form, whatever its second value.
abbrev pub GivenTwiceIsRefused : Type 0
GivenTwiceIsRefused = (input : InputNames) (arguments : List Argument) → AreOfSolve input arguments
    → (option : ValuedOption) (first second : Text) → value_given option arguments ≡ Some first
    → IsName second
    → reading_of_words (codes "solve" ∷ words_of arguments ++ option_word option ∷ second ∷ [])
    ≡ Refused fault.Form

-- A flag that is given twice is refused for its form.
abbrev pub FlagTwiceIsRefused : Type 0
FlagTwiceIsRefused =
    (input : InputNames) (arguments : List Argument) → AreOfSolve input arguments
    → (flag : FlagOption) → flag_given flag arguments ≡ true
    → reading_of_words (codes "solve" ∷ words_of arguments ++ flag_word flag ∷ [])
    ≡ Refused fault.Form

-- A word for help is refused for its form.
abbrev pub HelpIsRefused : Type 0
HelpIsRefused = (input : InputNames) (arguments : List Argument) → AreOfSolve input arguments
    → reading_of_words (codes "solve" ∷ words_of arguments ++ codes "--help" ∷ [])
    ≡ Refused fault.Form
