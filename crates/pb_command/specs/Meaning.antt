-- What words mean: the command that they are, or the first test that they fail.
use Rattle.std.specs.Prelude.{ℕ, ◌≡◌, ◌≤◌, Bool, false, List, [], ◌∷◌, Option, None, Some, IfSome, IsSome, if◌then◌else◌, nat_lt, codes}
use Rattle.std.specs.Str.{bytes_eq}
use Rattle.clap.specs.Words.{Kinds, Row, Text, fault_of, first_of, subcommand_of}
use Rattle.pb_machine.specs.declared.settings.Settings.{Settings}
use Rattle.pb_machine.specs.Settings.{AreInRange}
use Rattle.pb_task.specs.declared.kind.Kind.{Kind}
use Rattle.pb_command.specs.declared.command.Engine.{Engine}
use Rattle.pb_command.specs.declared.command.Engine.TheVariants.{Leases, Owners}
use Rattle.pb_command.specs.declared.command.InputOptions.{InputOptions}
use Rattle.pb_command.specs.declared.table.ValuedOption.{ValuedOption}
use Rattle.pb_command.specs.declared.table.ValuedOption.TheVariants.{Row as ScenarioRow, Workers, Num, Den, Budget, Lot, Blocks, Pattern, Tables, Certificate, Journal as JournalName, Rewrite, Falling as FallingSteps}
use Rattle.pb_command.specs.declared.table.FlagOption.{FlagOption}
use Rattle.pb_command.specs.declared.table.FlagOption.TheVariants.{Plain, Swamp, Reachable}
use Rattle.pb_command.specs.Parser.{the_program, seed_most}
use Rattle.pb_command.specs.Table.{IsInRangeOf, solve_options, check_options, journal_options, make_options}
use Rattle.pb_command.specs.Values.{InputNames, kind_of_text, input_of, values_fit, number_at, optional_number_at, text_at, flag_at, grounding_by, engine_at, effort_at, seed_of, size_of, least_size, most_size, is_size, are_one_name, is_journal_of_owners, is_falling_of_owners, is_journal_of_falling, are_two_estimates, is_loaded_name}
use Rattle.pb_command.specs.declared.refusal.CommandFault.{CommandFault}
use Rattle.pb_command.specs.declared.refusal.CommandFault.TheVariants as fault

-- `solve`: the task and how its files are read, what the search is run with, and how it searches.
-- How much is looked at to find tables for the estimate, if they are asked for. The names of a file
-- of tables, of the certificate and of the journal, if they are given.
pub record SolveMeaning : Type 0 where
  pub input : InputNames
  pub options : InputOptions
  pub settings : Settings
  pub engine : Engine
  pub effort : Option ℕ
  pub tables : Option Text
  pub certificate : Option Text
  pub journal : Option Text

-- `solve` with `--falling`: what it is besides, and in how many steps its weight falls
pub record FallingMeaning : Type 0 where
  pub solve : SolveMeaning
  pub steps : ℕ

-- `check`: the task and how its files are read, the certificate's name, and how many workers judge
-- its rows. The name under which it is saved anew, if one is given.
pub record CheckMeaning : Type 0 where
  pub input : InputNames
  pub certificate : Text
  pub options : InputOptions
  pub workers : ℕ
  pub rewrite : Option Text

-- `journal`: the task and how its files are read, and the journal's name
pub record JournalMeaning : Type 0 where
  pub input : InputNames
  pub journal : Text
  pub options : InputOptions

-- `make`: the kind of the made task, its seed and its size, and the number of workers
pub record MakeMeaning : Type 0 where
  pub kind : Kind
  pub seed : ℕ
  pub size : ℕ
  pub workers : ℕ

pub data Meaning : Type 0 where
  Solve : SolveMeaning → Meaning
  Falling : FallingMeaning → Meaning
  Check : CheckMeaning → Meaning
  Journal : JournalMeaning → Meaning
  Make : MakeMeaning → Meaning

pub data Reading : Type 0 where
  Refused : CommandFault → Reading
  Read : Meaning → Reading

-- a word that names no kind is a fault
abbrev pub with_kind : Option Kind → (Kind → Reading) → Reading
with_kind None next = Refused fault.Kind
with_kind (Some kind) next = next kind

-- a number of files that the kind doesn't have is a fault
abbrev pub with_input : Option InputNames → (InputNames → Reading) → Reading
with_input None next = Refused fault.Files
with_input (Some input) next = next input

-- a value of another form than its option's is a fault, before all others
abbrev pub if_fit : Bool → Reading → Reading
if_fit fit reading = if fit then reading else Refused fault.Form

-- ---- what options ask for

-- how files are read: the row of the scenario, whether swamp costs 2, and which ground atoms and
-- actions have numbers
abbrev pub options_by : (number : ValuedOption → ℕ) → (flag : FlagOption → Bool) → InputOptions
options_by number flag = record {
  row = number ScenarioRow;
  swamp = flag Swamp;
  grounding = grounding_by (flag Reachable);
}

-- what a search is run with: the number of workers, the weight as a fraction, the budget of
-- expansions, how many of them a lease gets at most, and how many blocks there are at most. Whether
-- no block is marked hot, and the number of the pattern database.
abbrev pub settings_by : (number : ValuedOption → ℕ) → (flag : FlagOption → Bool) → Settings
settings_by number flag = record {
  workers = number Workers;
  num = number Num;
  den = number Den;
  budget = number Budget;
  lot = number Lot;
  wish = number Blocks;
  plain = flag Plain;
  pattern = number Pattern;
}

-- ---- `solve`

-- one run, or runs at weights that fall in so many steps
abbrev pub solve_in_steps : SolveMeaning → (falling : Option ℕ) → Meaning
solve_in_steps solve None = Solve solve
solve_in_steps solve (Some steps) = Falling (record { solve = solve; steps = steps })

-- A weight below 1 is a fault, then one name for the certificate and the journal. Then a journal of
-- the engine that keeps none, or falling weights of the engine that has none, then a journal of
-- falling weights. Then two of tables that are looked for, a file of tables, and a pattern database.
abbrev pub solve_tested : (falling : Option ℕ) → SolveMeaning → Reading
solve_tested falling solve =
    if nat_lt solve.settings.num solve.settings.den then Refused fault.Weight
    else (if are_one_name solve.certificate solve.journal then Refused fault.Names
    else (if is_journal_of_owners solve.engine solve.journal then Refused fault.Engine
    else (if is_falling_of_owners solve.engine falling then Refused fault.Engine
    else (if is_journal_of_falling falling solve.journal then Refused fault.Falling
    else (if are_two_estimates solve.effort solve.tables solve.settings.pattern
    then Refused fault.Estimate
    else Read (solve_in_steps solve falling))))))

-- clap sees to it that a required word is there
abbrev pub solve_with : Option Text → Option Text → InputOptions → Settings → Engine
    → (effort : Option ℕ) → (tables certificate journal : Option Text) → (falling : Option ℕ)
    → Kind → Reading
solve_with None second options settings engine effort tables certificate journal falling kind =
    Refused fault.Form
solve_with (Some first) second options settings engine effort tables certificate journal falling
    kind =
    with_input (input_of kind first second)
    (λ input. solve_tested falling (record {
      input = input;
      options = options;
      settings = settings;
      engine = engine;
      effort = effort;
      tables = tables;
      certificate = certificate;
      journal = journal;
    }))

abbrev pub solve_of : List Row → Reading
solve_of rows = if_fit (values_fit solve_options rows)
    (with_kind (kind_of_text (first_of (codes "KIND") rows))
    (solve_with (first_of (codes "FIRST_FILE") rows) (first_of (codes "SECOND_FILE") rows)
    (options_by (number_at rows) (flag_at rows)) (settings_by (number_at rows) (flag_at rows))
    (engine_at rows) (effort_at rows) (text_at rows Tables) (text_at rows Certificate)
    (text_at rows JournalName) (optional_number_at rows FallingSteps)))

-- ---- `check` and `journal`

-- to save the certificate under the name of a file that is loaded is a fault
abbrev pub check_tested : CheckMeaning → Reading
check_tested check =
    if is_loaded_name check.rewrite check.certificate check.input then Refused fault.Names
    else Read (Check check)

abbrev pub check_with : Option Text → Option Text → Option Text → InputOptions → (workers : ℕ)
    → (rewrite : Option Text) → Kind → Reading
check_with (Some certificate) (Some first) second options workers rewrite kind =
    with_input (input_of kind first second)
    (λ input. check_tested (record {
      input = input;
      certificate = certificate;
      options = options;
      workers = workers;
      rewrite = rewrite;
    }))
check_with _ _ _ _ _ _ kind = Refused fault.Form

abbrev pub check_of : List Row → Reading
check_of rows = if_fit (values_fit check_options rows)
    (with_kind (kind_of_text (first_of (codes "KIND") rows))
    (check_with (first_of (codes "CERTIFICATE") rows) (first_of (codes "FIRST_FILE") rows)
    (first_of (codes "SECOND_FILE") rows) (options_by (number_at rows) (flag_at rows))
    (number_at rows Workers) (text_at rows Rewrite)))

abbrev pub journal_with : Option Text → Option Text → Option Text → InputOptions → Kind → Reading
journal_with (Some journal) (Some first) second options kind =
    with_input (input_of kind first second)
    (λ input. Read (Journal (record { input = input; journal = journal; options = options })))
journal_with _ _ _ _ kind = Refused fault.Form

-- how `journal` reads files: it has no flag for swamp
abbrev pub journal_options_by : (number : ValuedOption → ℕ) → (flag : FlagOption → Bool)
    → InputOptions
journal_options_by number flag = record (options_by number flag) { swamp = false }

abbrev pub journal_of : List Row → Reading
journal_of rows = if_fit (values_fit journal_options rows)
    (with_kind (kind_of_text (first_of (codes "KIND") rows))
    (journal_with (first_of (codes "JOURNAL") rows) (first_of (codes "FIRST_FILE") rows)
    (first_of (codes "SECOND_FILE") rows) (journal_options_by (number_at rows) (flag_at rows))))

-- ---- `make`

-- a size that its kind doesn't have is a fault
abbrev pub make_tested : MakeMeaning → Reading
make_tested make = if is_size make.kind make.size then Read (Make make) else Refused fault.Size

abbrev pub make_with : Option ℕ → Option ℕ → ℕ → Kind → Reading
make_with (Some seed) (Some size) workers kind =
    make_tested (record { kind = kind; seed = seed; size = size; workers = workers })
make_with _ _ _ kind = Refused fault.Form

abbrev pub make_of : List Row → Reading
make_of rows = if_fit (values_fit make_options rows)
    (with_kind (kind_of_text (first_of (codes "KIND") rows))
    (make_with (seed_of rows) (size_of rows) (number_at rows Workers)))

-- ---- all commands

-- what the values of a subcommand ask for
abbrev pub command_of : Text → List Row → Reading
command_of name rows = if bytes_eq name (codes "solve") then solve_of rows
    else (if bytes_eq name (codes "check") then check_of rows
    else (if bytes_eq name (codes "journal") then journal_of rows else make_of rows))

abbrev pub command_met : Option (Text × List Row) → Reading
command_met None = Refused fault.Form
command_met (Some met) = command_of met.0 met.1

abbrev pub unless_faulty : Kinds → Reading → Reading
unless_faulty [] reading = reading
unless_faulty (k ∷ ks) reading = Refused fault.Form

-- the words are refused if clap finds a fault in them, and else are what the values of their
-- subcommand ask for
abbrev pub reading_of_words : List Text → Reading
reading_of_words words =
    unless_faulty (fault_of the_program words) (command_met (subcommand_of the_program words))

-- ---- ranges

-- each number of the settings lies in the range of its option; the weight may be below 1
pub record AreEachInRange (settings : Settings) : Type 0 where
  pub workers : IsInRangeOf Workers settings.workers
  pub num : IsInRangeOf Num settings.num
  pub den : IsInRangeOf Den settings.den
  pub budget : IsInRangeOf Budget settings.budget
  pub lot : IsInRangeOf Lot settings.lot
  pub wish : IsInRangeOf Blocks settings.wish
  pub pattern : IsInRangeOf Pattern settings.pattern

-- The row and the settings lie in their ranges, the weight is at least 1, and certificate and
-- journal have two names. Of the engine that keeps none no journal is asked for. The effort for
-- tables is from 1 to 20, and beside tables no pattern database is asked for. Beside a file of
-- tables neither a pattern database is asked for nor tables that are looked for.
pub record IsSolveInRange (solve : SolveMeaning) : Type 0 where
  pub row : IsInRangeOf ScenarioRow solve.options.row
  pub settings : AreInRange solve.settings
  pub names : are_one_name solve.certificate solve.journal ≡ false
  pub engine : solve.engine ≡ Owners → solve.journal ≡ None
  pub effort : IfSome solve.effort (λ e. (1 ≤ e) × (e ≤ 20))
  pub estimate : IsSome solve.effort → solve.settings.pattern ≡ 0
  pub tables : IsSome solve.tables → (solve.settings.pattern ≡ 0) × (solve.effort ≡ None)

-- The same, and the number of steps is from 1 to 20. The engine is the one by leases, and no
-- journal is asked for.
pub record IsFallingInRange (falling : FallingMeaning) : Type 0 where
  pub solve : IsSolveInRange falling.solve
  pub some_steps : 1 ≤ falling.steps
  pub few_steps : falling.steps ≤ 20
  pub engine : falling.solve.engine ≡ Leases
  pub journal : falling.solve.journal ≡ None

-- the row and the number of workers lie in their ranges
pub record IsCheckInRange (check : CheckMeaning) : Type 0 where
  pub row : IsInRangeOf ScenarioRow check.options.row
  pub workers : IsInRangeOf Workers check.workers

-- the numbers of `make` lie in their ranges, the size in that of its kind
pub record IsMakeInRange (make : MakeMeaning) : Type 0 where
  pub seed : make.seed ≤ seed_most
  pub size : (least_size make.kind ≤ make.size) × (make.size ≤ most_size make.kind)
  pub workers : IsInRangeOf Workers make.workers

-- the values of a command lie in their ranges
abbrev pub IsInRange : Meaning → Type 0
IsInRange (Solve solve) = IsSolveInRange solve
IsInRange (Falling falling) = IsFallingInRange falling
IsInRange (Check check) = IsCheckInRange check
IsInRange (Journal journal) = IsInRangeOf ScenarioRow journal.options.row
IsInRange (Make make) = IsMakeInRange make
