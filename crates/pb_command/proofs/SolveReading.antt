-- What `solve` reads of its arguments.
use Rattle.std.proofs.Common.{◌≡◌, ◌∙◌, ◌≤◌, ◌<◌, ℕ, Bool, true, false, List, [], ◌∷◌, Option, None, Some, refl, sym, ap, ap₂, subst, codes}
use mathlib.Core.Path.{fun_ext}
use Rattle.std.specs.Prelude.{fold, map, option_map}
use Rattle.std.specs.List.{AllByRecursion}
use Rattle.std.specs.Str.{bytes_eq}
use Rattle.std.proofs.lemmas.Bool.{le-ltb, lt-ltb}
use Rattle.std.proofs.lemmas.Slice.Eq.{bytes_eq-Decides}
use Rattle.clap.specs.Walk.{Row as MatchRow, Text, rows_after, with_default, first_of}
use Rattle.clap.specs.Faults.{check_fault, defaults_fault}
use Rattle.pb_machine.specs.declared.settings.Settings.{Settings}
use Rattle.pb_command.specs.declared.command.Engine.{Engine}
use Rattle.pb_command.specs.declared.command.Engine.TheVariants.{Leases, Owners}
use Rattle.pb_command.specs.declared.command.InputOptions.{InputOptions}
use Rattle.pb_command.specs.declared.table.ValuedOption.TheVariants.{Engine as EngineOption, Num, Den, Pattern, Estimate, Effort, Tables, Certificate, Journal, Falling as FallingOption}
use Rattle.pb_command.specs.declared.table.FlagOption.{FlagOption}
use Rattle.pb_command.specs.declared.table.FlagOption.TheVariants.{Plain, Swamp, Reachable}
use Rattle.pb_command.specs.Table.{solve_options, solve_flags}
use Rattle.pb_command.specs.Values.{InputNames, Grid, Tiles, Strips, kind_of_text, are_one_name, is_journal_of_owners, is_falling_of_owners, is_journal_of_falling, are_two_estimates, flag_of, values_fit, number_at, optional_number_at, flag_at, text_at, engine_of, engine_at, effort_of, effort_at}
use Rattle.pb_command.specs.Meaning.{Read, Refused, Solve, Falling, SolveMeaning, reading_of_words, unless_faulty, solve_of, with_kind, if_fit, options_by, settings_by, solve_with, solve_in_steps, solve_tested}
use Rattle.pb_command.specs.Options.{number_given, options_given, settings_given, engine_given, effort_given, Argument, words_of, placed_words, value_given, flag_given, AreDistinct, IsArgumentOf, is_of_solve, is_flag_of_solve, number_of, kind_word, file_words, falling_given, solve_given, AreOfSolve, HaveOneRun, HaveTwoNames, HaveKeptJournal, HaveOneEstimate, HaveFittingFalling}
use Rattle.pb_command.specs.declared.refusal.CommandFault.TheVariants as fault
use Rattle.pb_command.proofs.Walking.{Place, Kind, FirstFile, SecondFile, flag_id, match_row, flag_rule, defaults_last, last_default_fault, flags_default_fault}
use Rattle.pb_command.proofs.Arguments.{row_of, rows_for, word_at, FitPlaces, IsWalkedWhole, found_flag, walks_all, rows_are, no_fault_at_all}
use Rattle.pb_command.proofs.Found.{first_file, Finds, finds, finds_with, row_beside_flag, flag_read, flag_read_beside, text_read, numbers_read, falling_read, all_fit}
use Rattle.pb_command.proofs.Shapes.{solve_shape, plainless_rules, solve_takes, by_words, ToSolve, no_default_in_solve, rules_of_solve}

abbrev pub solve_places : List Place
solve_places = Kind ∷ FirstFile ∷ SecondFile ∷ []

-- nothing is missing where the kind and the first file were found
nothing_missing : (rows : List MatchRow) (kind first : Text) → row_of (codes "KIND") rows ≡ Some (match_row (codes "KIND") kind)
    → row_of (codes "FIRST_FILE") rows ≡ Some (match_row (codes "FIRST_FILE") first) → check_fault solve_shape rows false ≡ []
unfolding solve_shape plainless_rules
nothing_missing rows kind first has_kind has_first = rw (has_kind, has_first) refl

-- the rows with the default of `--plain`, then with that of `--swamp`, and then with that of
-- `--reachable`
abbrev rows_with_plain : List Argument → List MatchRow
rows_with_plain arguments = with_default (rows_for solve_places arguments) (flag_rule Plain)

abbrev rows_with_swamp : List Argument → List MatchRow
rows_with_swamp arguments = with_default (rows_with_plain arguments) (flag_rule Swamp)

abbrev pub rows_with_flags : List Argument → List MatchRow
rows_with_flags arguments = with_default (rows_with_swamp arguments) (flag_rule Reachable)

with_flags : (arguments : List Argument) → fold with_default (rows_for solve_places arguments) solve_shape.rules ≡ rows_with_flags arguments
with_flags arguments =
    ap (fold with_default (rows_for solve_places arguments)) rules_of_solve ∙ defaults_last (rows_for solve_places arguments) plainless_rules (map flag_rule solve_flags) no_default_in_solve

no_default_fails : (arguments : List Argument) → defaults_fault (rows_for solve_places arguments) solve_shape.rules ≡ []
no_default_fails arguments =
    ap (defaults_fault (rows_for solve_places arguments)) rules_of_solve
    ∙ (last_default_fault (rows_for solve_places arguments) plainless_rules (map flag_rule solve_flags) no_default_in_solve ∙ flags_default_fault (rows_for solve_places arguments) solve_flags)

pub finds_with_flags : (arguments : List Argument) → Finds solve_places arguments (rows_with_flags arguments)
finds_with_flags arguments =
    finds_with Reachable solve_places arguments (rows_with_swamp arguments)
    (finds_with Swamp solve_places arguments (rows_with_plain arguments) (finds_with Plain solve_places arguments (rows_for solve_places arguments) (finds solve_places arguments)))

plain_read : (arguments : List Argument) → flag_of (codes "plain") (rows_with_flags arguments) ≡ flag_given Plain arguments
plain_read arguments =
    flag_read_beside Plain Reachable (rows_with_swamp arguments) refl ∙ (flag_read_beside Plain Swamp (rows_with_plain arguments) refl
    ∙ flag_read Plain arguments (rows_for solve_places arguments) (found_flag solve_places Plain arguments))

swamp_read : (arguments : List Argument) → flag_of (codes "swamp") (rows_with_flags arguments) ≡ flag_given Swamp arguments
swamp_read arguments =
    flag_read_beside Swamp Reachable (rows_with_swamp arguments) refl
    ∙ flag_read Swamp arguments (rows_with_plain arguments) (row_beside_flag Plain (flag_id Swamp) (rows_for solve_places arguments) refl ∙ found_flag solve_places Swamp arguments)

reachable_read : (arguments : List Argument) → flag_of (codes "reachable") (rows_with_flags arguments) ≡ flag_given Reachable arguments
reachable_read arguments =
    flag_read Reachable arguments (rows_with_swamp arguments) (row_beside_flag Swamp (flag_id Reachable) (rows_with_plain arguments) refl
    ∙ (row_beside_flag Plain (flag_id Reachable) (rows_for solve_places arguments) refl ∙ found_flag solve_places Reachable arguments))

pub solve_walk : (arguments : List Argument) → AllByRecursion (IsArgumentOf is_of_solve is_flag_of_solve) arguments → AreDistinct arguments → FitPlaces solve_places (placed_words arguments)
    → IsWalkedWhole solve_shape solve_places arguments
solve_walk arguments all distinct fit = walks_all solve_shape is_of_solve is_flag_of_solve solve_places solve_takes arguments all distinct fit

flags_read : (arguments : List Argument) (f : FlagOption) → flag_at (rows_with_flags arguments) f ≡ flag_given f arguments
flags_read arguments Plain = plain_read arguments
flags_read arguments Swamp = swamp_read arguments
flags_read arguments Reachable = reachable_read arguments

solve_values : (rows : List MatchRow) (kind first second tables certificate journal : Option Text) (falling : Option ℕ) (options : InputOptions) (settings : Settings) (engine : Engine) (effort : Option ℕ)
    → values_fit solve_options rows ≡ true
    → first_of (codes "KIND") rows ≡ kind → first_of (codes "FIRST_FILE") rows ≡ first → first_of (codes "SECOND_FILE") rows ≡ second
    → options_by (number_at rows) (flag_at rows) ≡ options → settings_by (number_at rows) (flag_at rows) ≡ settings → engine_at rows ≡ engine → effort_at rows ≡ effort
    → text_at rows Tables ≡ tables → text_at rows Certificate ≡ certificate → text_at rows Journal ≡ journal
    → optional_number_at rows FallingOption ≡ falling
    → solve_of rows ≡ with_kind (kind_of_text kind) (solve_with first second options settings engine effort tables certificate journal falling)
solve_values rows kind first second tables certificate journal falling options settings engine effort fit a b c d e f g t h k l =
    λ i. if_fit (fit i) (with_kind (kind_of_text (a i)) (solve_with (b i) (c i) (d i) (e i) (f i) (g i) (t i) (h i) (k i) (l i)))

-- clap takes what it has walked over, and the values are those that it found
pub solve_is_read : (arguments : List Argument) → IsWalkedWhole solve_shape solve_places arguments
    → (kind first : Text) → word_at Kind solve_places (placed_words arguments) ≡ Some kind → word_at FirstFile solve_places (placed_words arguments) ≡ Some first
    → reading_of_words (codes "solve" ∷ words_of arguments) ≡ solve_of (rows_with_flags arguments)
solve_is_read arguments w kind first kind_is first_is =
    let rows = rows_with_flags arguments in
    let found = finds_with_flags arguments in
    let none = no_fault_at_all solve_shape solve_places arguments solve_takes.strict w (no_default_fails arguments)
    (ap (λ x. check_fault solve_shape x false) (with_flags arguments) ∙ nothing_missing rows kind first (found.place Kind ∙ rw kind_is refl) (found.place FirstFile ∙ rw first_is refl)) in
    let are : rows_after solve_shape.rules [] (words_of arguments) ≡ rows = rows_are solve_shape solve_places arguments w ∙ with_flags arguments in
    by_words ToSolve (words_of arguments) ∙ ap₂ unless_faulty none (ap solve_of are)

-- what the arguments of `solve` ask for, whatever its kind and the number of its files
pub solve_is : (arguments : List Argument) → AllByRecursion (IsArgumentOf is_of_solve is_flag_of_solve) arguments → AreDistinct arguments → FitPlaces solve_places (placed_words arguments)
    → (kind first : Text) → word_at Kind solve_places (placed_words arguments) ≡ Some kind → word_at FirstFile solve_places (placed_words arguments) ≡ Some first
    → reading_of_words (codes "solve" ∷ words_of arguments) ≡ with_kind (kind_of_text (Some kind))
    (solve_with (Some first) (word_at SecondFile solve_places (placed_words arguments)) (options_given arguments) (settings_given arguments) (engine_given arguments) (effort_given arguments) (value_given Tables arguments) (value_given Certificate arguments) (value_given Journal arguments) (falling_given arguments))
solve_is arguments all distinct fit kind first kind_is first_is =
    let w = solve_walk arguments all distinct fit in
    let rows = rows_with_flags arguments in
    let found = finds_with_flags arguments in
    let kind_row : row_of (codes "KIND") rows ≡ Some (match_row (codes "KIND") kind) = found.place Kind ∙ rw kind_is refl in
    let first_row : row_of (codes "FIRST_FILE") rows ≡ Some (match_row (codes "FIRST_FILE") first) = found.place FirstFile ∙ rw first_is refl in
    let numbers : number_at rows ≡ (λ o. number_given o arguments) = fun_ext (numbers_read is_of_solve is_flag_of_solve solve_places arguments rows all found) in
    let flags : flag_at rows ≡ (λ f. flag_given f arguments) = fun_ext (flags_read arguments) in
    solve_is_read arguments w kind first kind_is first_is
    ∙ solve_values rows (Some kind) (Some first) (word_at SecondFile solve_places (placed_words arguments)) (value_given Tables arguments) (value_given Certificate arguments) (value_given Journal arguments) (falling_given arguments) (options_given arguments) (settings_given arguments)
    (engine_given arguments) (effort_given arguments)
    (all_fit is_of_solve is_flag_of_solve solve_places arguments rows all found solve_options)
    (text_read rows (codes "KIND") (Some kind) kind_row) (text_read rows (codes "FIRST_FILE") (Some first) first_row)
    (text_read rows (codes "SECOND_FILE") (word_at SecondFile solve_places (placed_words arguments)) (found.place SecondFile))
    (ap₂ options_by numbers flags) (ap₂ settings_by numbers flags)
    (ap engine_of (text_read rows (codes "engine") (value_given EngineOption arguments) (found.option EngineOption)))
    (ap₂ effort_of (text_read rows (codes "estimate") (value_given Estimate arguments) (found.option Estimate)) (ap (λ number. number Effort) numbers))
    (text_read rows (codes "tables") (value_given Tables arguments) (found.option Tables))
    (text_read rows (codes "cert") (value_given Certificate arguments) (found.option Certificate))
    (text_read rows (codes "trace") (value_given Journal arguments) (found.option Journal))
    (falling_read is_of_solve is_flag_of_solve solve_places arguments rows all found)

-- the first of the files
pub files_fit : (input : InputNames) → FitPlaces solve_places (kind_word input ∷ file_words input)
files_fit (Grid names) = (refl, (refl, (refl, tt)))
files_fit (Tiles board) = (refl, (refl, tt))
files_fit (Strips names) = (refl, (refl, (refl, tt)))

pub kind_at : (input : InputNames) → word_at Kind solve_places (kind_word input ∷ file_words input) ≡ Some (kind_word input)
kind_at (Grid names) = refl
kind_at (Tiles board) = refl
kind_at (Strips names) = refl

pub first_at : (input : InputNames) → word_at FirstFile solve_places (kind_word input ∷ file_words input) ≡ Some (first_file input)
first_at (Grid names) = refl
first_at (Tiles board) = refl
first_at (Strips names) = refl

tested : (input : InputNames) (arguments : List Argument)
    → with_kind (kind_of_text (Some (kind_word input)))
    (solve_with (Some (first_file input)) (word_at SecondFile solve_places (kind_word input ∷ file_words input)) (options_given arguments) (settings_given arguments) (engine_given arguments) (effort_given arguments)
    (value_given Tables arguments) (value_given Certificate arguments) (value_given Journal arguments) (falling_given arguments)) ≡ solve_tested (falling_given arguments) (solve_given input arguments)
tested (Grid names) arguments = refl
tested (Tiles board) arguments = refl
tested (Strips names) arguments = refl

pub solve_fits : (input : InputNames) (arguments : List Argument) → AreOfSolve input arguments → FitPlaces solve_places (placed_words arguments)
solve_fits input arguments are = subst (FitPlaces solve_places) (sym are.placed) (files_fit input)

-- the arguments of `solve` with the files of its kind are tested
pub solve_is_tested : (input : InputNames) (arguments : List Argument) → AreOfSolve input arguments
    → reading_of_words (codes "solve" ∷ words_of arguments) ≡ solve_tested (falling_given arguments) (solve_given input arguments)
solve_is_tested input arguments are =
    solve_is arguments are.each are.distinct (solve_fits input arguments are) (kind_word input) (first_file input)
    (ap (word_at Kind solve_places) are.placed ∙ kind_at input) (ap (word_at FirstFile solve_places) are.placed ∙ first_at input)
    ∙ (ap (λ ws. with_kind (kind_of_text (Some (kind_word input)))
    (solve_with (Some (first_file input)) (word_at SecondFile solve_places ws) (options_given arguments) (settings_given arguments) (engine_given arguments) (effort_given arguments)
    (value_given Tables arguments) (value_given Certificate arguments) (value_given Journal arguments) (falling_given arguments))) are.placed ∙ tested input arguments)

-- ---- the tests

module _ (m : SolveMeaning) where
  pub low_weight : (falling : Option ℕ) → m.settings.num < m.settings.den → solve_tested falling m ≡ Refused fault.Weight
  low_weight falling weight = rw (lt-ltb m.settings.num m.settings.den weight) refl

  module _ (falling : Option ℕ) (weight : m.settings.den ≤ m.settings.num) where
    pub one_name : are_one_name m.certificate m.journal ≡ true → solve_tested falling m ≡ Refused fault.Names
    one_name names = rw (le-ltb m.settings.num m.settings.den weight, names) refl

    pub other_engine : are_one_name m.certificate m.journal ≡ false → is_journal_of_owners m.engine m.journal ≡ true → solve_tested falling m ≡ Refused fault.Engine
    other_engine names lost = rw (le-ltb m.settings.num m.settings.den weight, names, lost) refl

    pub passes : are_one_name m.certificate m.journal ≡ false → is_journal_of_owners m.engine m.journal ≡ false → is_falling_of_owners m.engine falling ≡ false
        → is_journal_of_falling falling m.journal ≡ false → are_two_estimates m.effort m.tables m.settings.pattern ≡ false
        → solve_tested falling m ≡ Read (solve_in_steps m falling)
    passes names kept leases alone one = rw (le-ltb m.settings.num m.settings.den weight, names, kept, leases, alone, one) refl

    pub two_are_refused : are_one_name m.certificate m.journal ≡ false → is_journal_of_owners m.engine m.journal ≡ false → is_falling_of_owners m.engine falling ≡ false
        → is_journal_of_falling falling m.journal ≡ false → are_two_estimates m.effort m.tables m.settings.pattern ≡ true
        → solve_tested falling m ≡ Refused fault.Estimate
    two_are_refused names kept leases alone two = rw (le-ltb m.settings.num m.settings.den weight, names, kept, leases, alone, two) refl

    -- falling weights of owners are refused, whether a journal of them is asked for or not
    pub falling_of_owners : are_one_name m.certificate m.journal ≡ false → is_falling_of_owners m.engine falling ≡ true → solve_tested falling m ≡ Refused fault.Engine
    falling_of_owners names owners = by (is_journal_of_owners m.engine m.journal) refl where
      by : (b : Bool) → is_journal_of_owners m.engine m.journal ≡ b → solve_tested falling m ≡ Refused fault.Engine
      by true lost = other_engine names lost
      by false kept = rw (le-ltb m.settings.num m.settings.den weight, names, kept, owners) refl

    pub journal_of_falling : are_one_name m.certificate m.journal ≡ false → is_journal_of_owners m.engine m.journal ≡ false → is_falling_of_owners m.engine falling ≡ false
        → is_journal_of_falling falling m.journal ≡ true → solve_tested falling m ≡ Refused fault.Falling
    journal_of_falling names kept leases noted = rw (le-ltb m.settings.num m.settings.den weight, names, kept, leases, noted) refl

pub kept_journal : (e : Engine) (journal : Option Text) → (e ≡ Owners → journal ≡ None) → is_journal_of_owners e journal ≡ false
kept_journal Leases journal kept = refl
kept_journal Owners None kept = refl
kept_journal Owners (Some name) kept = absurd (apart (kept refl)) where
  apart : Some name ≡ None → ⊥
  apart e = cc

pub lost_journal : (given journal : Option Text) (name : Text) → given ≡ Some (codes "hda") → journal ≡ Some name → is_journal_of_owners (engine_of given) journal ≡ true
lost_journal given journal name e f = rw (e, f) refl

pub two_names : (a b : Option Text) → ((name : Text) → a ≡ Some name → b ≡ Some name → ⊥) → are_one_name a b ≡ false
two_names None b apart = refl
two_names (Some x) None apart = refl
two_names (Some x) (Some y) apart = by (bytes_eq x y) refl where
  by : (b : Bool) → bytes_eq x y ≡ b → b ≡ false
  by true is = absurd (apart y (ap Some ((bytes_eq-Decides x y).0 is)) refl)
  by false is = refl

pub same_names : (a b : Option Text) (name : Text) → a ≡ Some name → b ≡ Some name → are_one_name a b ≡ true
same_names a b name e f = rw (e, f) ((bytes_eq-Decides name name).1 refl)

-- without falling weights
no_falling : (e : Engine) → is_falling_of_owners e None ≡ false
no_falling Leases = refl
no_falling Owners = refl

no_journal_of_falling : (journal : Option Text) → is_journal_of_falling None journal ≡ false
no_journal_of_falling None = refl
no_journal_of_falling (Some name) = refl

two_names_with_none : (a : Option Text) → are_one_name a None ≡ false
two_names_with_none None = refl
two_names_with_none (Some name) = refl

-- beside tables that are looked for there is no pattern database, and beside a file of tables there is neither
one_estimate : (estimate tables : Option Text) (effort pattern : ℕ) → (estimate ≡ Some (codes "tables") → pattern ≡ 0)
    → ((file : Text) → tables ≡ Some file → (pattern ≡ 0) × (estimate ≡ None)) → are_two_estimates (effort_of estimate effort) tables pattern ≡ false
one_estimate None None effort pattern none alone = refl
one_estimate estimate (Some file) effort pattern none alone = rw ((alone file refl).1, (alone file refl).0) refl
one_estimate (Some word) None effort pattern none alone = by (bytes_eq word (codes "tables")) refl where
  by : (b : Bool) → bytes_eq word (codes "tables") ≡ b → are_two_estimates (effort_of (Some word) effort) None pattern ≡ false
  by true is = rw (is, none (ap Some ((bytes_eq-Decides word (codes "tables")).0 is))) refl
  by false is = rw is refl

pattern_beside_tables : (estimate tables : Option Text) (effort pattern : ℕ) → estimate ≡ Some (codes "tables") → 1 ≤ pattern → are_two_estimates (effort_of estimate effort) tables pattern ≡ true
pattern_beside_tables estimate None effort pattern is some = rw (is, lt-ltb 0 pattern some) refl
pattern_beside_tables estimate (Some file) effort pattern is some = rw is refl

pattern_beside_file : (effort : Option ℕ) (tables : Option Text) (file : Text) (pattern : ℕ) → tables ≡ Some file → 1 ≤ pattern → are_two_estimates effort tables pattern ≡ true
pattern_beside_file None tables file pattern is some = rw (is, lt-ltb 0 pattern some) refl
pattern_beside_file (Some effort) tables file pattern is some = rw is refl

tables_beside_file : (estimate tables : Option Text) (file : Text) (effort pattern : ℕ) → tables ≡ Some file → estimate ≡ Some (codes "tables")
    → are_two_estimates (effort_of estimate effort) tables pattern ≡ true
tables_beside_file estimate tables file effort pattern is looked = rw (is, looked) refl

-- the laws
pub solve_reads : (input : InputNames) (arguments : List Argument) → AreOfSolve input arguments → HaveOneRun arguments → number_given Den arguments ≤ number_given Num arguments
    → HaveTwoNames arguments → HaveKeptJournal arguments → HaveOneEstimate arguments
    → reading_of_words (codes "solve" ∷ words_of arguments) ≡ Read (Solve (solve_given input arguments))
solve_reads input arguments are once weight names kept one =
    solve_is_tested input arguments are
    ∙ (ap (λ given. solve_tested (option_map number_of given) (solve_given input arguments)) once
    ∙ passes (solve_given input arguments) None weight (two_names (value_given Certificate arguments) (value_given Journal arguments) names)
    (kept_journal (engine_given arguments) (value_given Journal arguments) kept) (no_falling (engine_given arguments)) (no_journal_of_falling (value_given Journal arguments))
    (one_estimate (value_given Estimate arguments) (value_given Tables arguments) (number_given Effort arguments) (number_given Pattern arguments) one.0 one.1))

-- the engine by leases keeps each journal and has falling weights
pub leases_keep : (e : Engine) (journal : Option Text) → e ≡ Leases → is_journal_of_owners e journal ≡ false
leases_keep e journal is = rw is refl

pub leases_fall : (e : Engine) (falling : Option ℕ) → e ≡ Leases → is_falling_of_owners e falling ≡ false
leases_fall e falling is = rw is refl

pub falling_reads : (input : InputNames) (steps : Text) (arguments : List Argument) → AreOfSolve input arguments → value_given FallingOption arguments ≡ Some steps
    → number_given Den arguments ≤ number_given Num arguments → engine_given arguments ≡ Leases → value_given Journal arguments ≡ None → HaveOneEstimate arguments
    → reading_of_words (codes "solve" ∷ words_of arguments) ≡ Read (Falling (record { solve = solve_given input arguments; steps = number_of steps }))
falling_reads input steps arguments are given weight engine journal one =
    solve_is_tested input arguments are
    ∙ (ap (λ x. solve_tested (option_map number_of x) (solve_given input arguments)) given
    ∙ passes (solve_given input arguments) (Some (number_of steps)) weight
    (ap (are_one_name (value_given Certificate arguments)) journal ∙ two_names_with_none (value_given Certificate arguments))
    (leases_keep (engine_given arguments) (value_given Journal arguments) engine) (leases_fall (engine_given arguments) (Some (number_of steps)) engine)
    (ap (is_journal_of_falling (Some (number_of steps))) journal)
    (one_estimate (value_given Estimate arguments) (value_given Tables arguments) (number_given Effort arguments) (number_given Pattern arguments) one.0 one.1))

pub falling_of_owners_refused : (input : InputNames) (steps : Text) (arguments : List Argument) → AreOfSolve input arguments → number_given Den arguments ≤ number_given Num arguments
    → HaveTwoNames arguments → value_given EngineOption arguments ≡ Some (codes "hda") → value_given FallingOption arguments ≡ Some steps
    → reading_of_words (codes "solve" ∷ words_of arguments) ≡ Refused fault.Engine
falling_of_owners_refused input steps arguments are weight names engine given =
    solve_is_tested input arguments are
    ∙ falling_of_owners (solve_given input arguments) (falling_given arguments) weight (two_names (value_given Certificate arguments) (value_given Journal arguments) names)
    (rw (engine, given) refl)

pub falling_with_journal_refused : (input : InputNames) (steps name : Text) (arguments : List Argument) → AreOfSolve input arguments
    → number_given Den arguments ≤ number_given Num arguments → HaveTwoNames arguments → engine_given arguments ≡ Leases
    → value_given FallingOption arguments ≡ Some steps → value_given Journal arguments ≡ Some name
    → reading_of_words (codes "solve" ∷ words_of arguments) ≡ Refused fault.Falling
falling_with_journal_refused input steps name arguments are weight names engine given noted =
    solve_is_tested input arguments are
    ∙ journal_of_falling (solve_given input arguments) (falling_given arguments) weight (two_names (value_given Certificate arguments) (value_given Journal arguments) names)
    (leases_keep (engine_given arguments) (value_given Journal arguments) engine) (leases_fall (engine_given arguments) (falling_given arguments) engine)
    (rw (given, noted) refl)

-- falling weights pass their tests
fall_by_leases : (e : Engine) (falling : Option Text) → ((steps : Text) → falling ≡ Some steps → e ≡ Leases) → is_falling_of_owners e (option_map number_of falling) ≡ false
fall_by_leases e None fit = no_falling e
fall_by_leases e (Some steps) fit = leases_fall e (Some (number_of steps)) (fit steps refl)

fall_unnoted : (falling journal : Option Text) → ((steps : Text) → falling ≡ Some steps → journal ≡ None) → is_journal_of_falling (option_map number_of falling) journal ≡ false
fall_unnoted None journal fit = no_journal_of_falling journal
fall_unnoted (Some steps) journal fit = ap (is_journal_of_falling (Some (number_of steps))) (fit steps refl)

-- two estimates are refused, if all other tests pass
two_estimates_refused : (input : InputNames) (arguments : List Argument) → AreOfSolve input arguments → number_given Den arguments ≤ number_given Num arguments
    → HaveTwoNames arguments → HaveKeptJournal arguments → HaveFittingFalling arguments
    → are_two_estimates (effort_given arguments) (value_given Tables arguments) (number_given Pattern arguments) ≡ true
    → reading_of_words (codes "solve" ∷ words_of arguments) ≡ Refused fault.Estimate
two_estimates_refused input arguments are weight names kept fit two =
    solve_is_tested input arguments are
    ∙ two_are_refused (solve_given input arguments) (falling_given arguments) weight (two_names (value_given Certificate arguments) (value_given Journal arguments) names)
    (kept_journal (engine_given arguments) (value_given Journal arguments) kept)
    (fall_by_leases (engine_given arguments) (value_given FallingOption arguments) (λ steps given. (fit steps given).0))
    (fall_unnoted (value_given FallingOption arguments) (value_given Journal arguments) (λ steps given. (fit steps given).1))
    two

pub pattern_of_estimate_refused : (input : InputNames) (arguments : List Argument) → AreOfSolve input arguments → number_given Den arguments ≤ number_given Num arguments
    → HaveTwoNames arguments → HaveKeptJournal arguments → HaveFittingFalling arguments
    → value_given Estimate arguments ≡ Some (codes "tables") → 1 ≤ number_given Pattern arguments
    → reading_of_words (codes "solve" ∷ words_of arguments) ≡ Refused fault.Estimate
pattern_of_estimate_refused input arguments are weight names kept fit looked some =
    two_estimates_refused input arguments are weight names kept fit
    (pattern_beside_tables (value_given Estimate arguments) (value_given Tables arguments) (number_given Effort arguments) (number_given Pattern arguments) looked some)

pub pattern_beside_file_refused : (input : InputNames) (file : Text) (arguments : List Argument) → AreOfSolve input arguments → number_given Den arguments ≤ number_given Num arguments
    → HaveTwoNames arguments → HaveKeptJournal arguments → HaveFittingFalling arguments
    → value_given Tables arguments ≡ Some file → 1 ≤ number_given Pattern arguments
    → reading_of_words (codes "solve" ∷ words_of arguments) ≡ Refused fault.Estimate
pattern_beside_file_refused input file arguments are weight names kept fit given some =
    two_estimates_refused input arguments are weight names kept fit
    (pattern_beside_file (effort_given arguments) (value_given Tables arguments) file (number_given Pattern arguments) given some)

pub estimate_beside_file_refused : (input : InputNames) (file : Text) (arguments : List Argument) → AreOfSolve input arguments → number_given Den arguments ≤ number_given Num arguments
    → HaveTwoNames arguments → HaveKeptJournal arguments → HaveFittingFalling arguments
    → value_given Tables arguments ≡ Some file → value_given Estimate arguments ≡ Some (codes "tables")
    → reading_of_words (codes "solve" ∷ words_of arguments) ≡ Refused fault.Estimate
estimate_beside_file_refused input file arguments are weight names kept fit given looked =
    two_estimates_refused input arguments are weight names kept fit
    (tables_beside_file (value_given Estimate arguments) (value_given Tables arguments) file (number_given Effort arguments) (number_given Pattern arguments) given looked)
