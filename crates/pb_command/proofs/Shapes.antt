-- The commands as clap has built them, and what their walks ask of them.
use Rattle.std.proofs.Common.{◌≡◌, ◌∙◌, ◌++◌, true, false, List, [], ◌∷◌, refl, ap, ap₂, codes}
use Rattle.std.specs.List.{AllByRecursion}
use Rattle.std.specs.Prelude.{fold, map}
use Rattle.clap.specs.Walk.{Rule, Row as MatchRow, Text, Walk, walked, walk_from, nothing_held, rows_after, stop_after}
use Rattle.clap.specs.Simple.{App, Shape, built, new_shape, names_of, argument_words, entered}
use Rattle.clap.specs.Faults.{built_fault, level_fault, walk_fault, defaults_fault}
use Rattle.clap.specs.Kinds.{Kinds, or_else}
use Rattle.pb_command.specs.Parser.{the_program}
use Rattle.pb_command.specs.Meaning.{Reading, reading_of_words, unless_faulty, command_met, solve_of, check_of, journal_of, make_of}
use Rattle.pb_command.specs.declared.table.ValuedOption.{ValuedOption}
use Rattle.pb_command.specs.declared.table.ValuedOption.TheVariants.{Row, Workers, Rewrite}
use Rattle.pb_command.specs.declared.table.FlagOption.{FlagOption}
use Rattle.pb_command.specs.declared.table.FlagOption.TheVariants.{Plain, Swamp, Reachable}
use Rattle.pb_command.specs.Table.{solve_options, solve_flags, check_options, check_flags, journal_options, journal_flags, make_options}
use Rattle.pb_command.specs.Options.{is_of_solve, is_of_check, is_of_journal, is_of_make, is_flag_of_solve, is_flag_of_check, is_flag_of_journal, no_flag}
use Rattle.pb_command.proofs.Declared.{program_on_literals}
use Rattle.pb_command.proofs.Walking.{Kind, FirstFile, SecondFile, CertificateFile, JournalFile, Seed, Size, HasOption, HasFlag, HasNoDefault, placed_rule, valued_rule, flag_rule}
use Rattle.pb_command.proofs.Arguments.{Takes, HasPlaces}
use Rattle.pb_command.proofs.Stopped.{stays_stopped, no_fault_when_stopped, stopped_at}

-- a subcommand with these rules
abbrev shape_with : Text → List Rule → Shape
shape_with name rules = record (new_shape name) {
  rules = rules;
  no_binary_name = true;
  disable_help_flag = true;
  disable_help_subcommand = true;
  is_built = true;
}

-- the rules of `solve` that have no default
unfoldable pub plainless_rules : List Rule
plainless_rules = placed_rule 1 Kind ∷ placed_rule 2 FirstFile ∷ placed_rule 3 SecondFile ∷ map valued_rule solve_options

unfoldable pub solve_shape : Shape
unfolding plainless_rules
solve_shape = shape_with (codes "solve") (plainless_rules ++ map flag_rule solve_flags)

-- the rules of `check` that have no default
unfoldable pub flagless_rules : List Rule
flagless_rules = placed_rule 1 Kind ∷ placed_rule 2 CertificateFile ∷ placed_rule 3 FirstFile ∷ placed_rule 4 SecondFile ∷ map valued_rule check_options

unfoldable pub check_shape : Shape
unfolding flagless_rules
check_shape = shape_with (codes "check") (flagless_rules ++ map flag_rule check_flags)

-- the rules of `journal` that have no default
unfoldable pub journal_rules : List Rule
journal_rules = placed_rule 1 Kind ∷ placed_rule 2 JournalFile ∷ placed_rule 3 FirstFile ∷ placed_rule 4 SecondFile ∷ map valued_rule journal_options

unfoldable pub journal_shape : Shape
unfolding journal_rules
journal_shape = shape_with (codes "journal") (journal_rules ++ map flag_rule journal_flags)

unfoldable pub make_shape : Shape
make_shape = shape_with (codes "make") (placed_rule 1 Kind ∷ placed_rule 2 Seed ∷ placed_rule 3 Size ∷ map valued_rule make_options)

unfoldable pub top_shape : Shape
top_shape = record (new_shape (codes "pbnf")) {
  is_leaf = false;
  no_binary_name = true;
  disable_help_flag = true;
  disable_help_subcommand = true;
  subcommand_required = true;
  is_built = true;
}

unfoldable pub program_built : App
program_built = record { top = top_shape; subs = solve_shape ∷ check_shape ∷ journal_shape ∷ make_shape ∷ [] }

pub built_is : built the_program ≡ program_built
unfolding program_on_literals program_built top_shape solve_shape plainless_rules check_shape flagless_rules journal_shape journal_rules make_shape
built_is = refl

words_are : (words : List Text) → argument_words the_program words ≡ words
unfolding program_on_literals
words_are words = refl

-- what the words mean, by the program that clap has built
pub by_built : (words : List Text)
    → reading_of_words words ≡ unless_faulty (built_fault program_built nothing_held words) (command_met (entered program_built (stop_after program_built.top.rules (names_of program_built) words)))
by_built words = ap (λ ws. unless_faulty (built_fault (built the_program) nothing_held ws) (command_met (entered (built the_program) (stop_after (built the_program).top.rules (names_of (built the_program)) ws)))) (words_are words)
    ∙ ap (λ (a : App). unless_faulty (built_fault a nothing_held words) (command_met (entered a (stop_after a.top.rules (names_of a) words)))) built_is

or_none : (kinds : Kinds) → or_else kinds [] ≡ kinds
or_none [] = refl
or_none (k ∷ ks) = refl

-- ---- each subcommand is read by its own words

pub data Subcommand : Type 0 where
  ToSolve : Subcommand
  ToCheck : Subcommand
  ToJournal : Subcommand
  ToMake : Subcommand

abbrev pub name_of : Subcommand → Text
name_of ToSolve = codes "solve"
name_of ToCheck = codes "check"
name_of ToJournal = codes "journal"
name_of ToMake = codes "make"

abbrev pub shape_of : Subcommand → Shape
shape_of ToSolve = solve_shape
shape_of ToCheck = check_shape
shape_of ToJournal = journal_shape
shape_of ToMake = make_shape

abbrev pub meaning_of : Subcommand → List MatchRow → Reading
meaning_of ToSolve = solve_of
meaning_of ToCheck = check_of
meaning_of ToJournal = journal_of
meaning_of ToMake = make_of

walk_to : (c : Subcommand) (words : List Text)
    → fold (walked top_shape.rules (names_of program_built)) (walk_from nothing_held) (name_of c ∷ words) ≡ stopped_at (walk_from nothing_held) (name_of c) words
unfolding walked program_built top_shape solve_shape check_shape journal_shape make_shape
walk_to ToSolve words = stays_stopped top_shape.rules (names_of program_built) (walk_from nothing_held) (codes "solve") [] words
walk_to ToCheck words = stays_stopped top_shape.rules (names_of program_built) (walk_from nothing_held) (codes "check") [] words
walk_to ToJournal words = stays_stopped top_shape.rules (names_of program_built) (walk_from nothing_held) (codes "journal") [] words
walk_to ToMake words = stays_stopped top_shape.rules (names_of program_built) (walk_from nothing_held) (codes "make") [] words

no_fault_to : (c : Subcommand) (words : List Text) → walk_fault top_shape (names_of program_built) (walk_from nothing_held) (name_of c ∷ words) ≡ []
unfolding walked walk_fault program_built top_shape solve_shape check_shape journal_shape make_shape
no_fault_to ToSolve words = no_fault_when_stopped top_shape (names_of program_built) (walk_from nothing_held) (codes "solve") [] words
no_fault_to ToCheck words = no_fault_when_stopped top_shape (names_of program_built) (walk_from nothing_held) (codes "check") [] words
no_fault_to ToJournal words = no_fault_when_stopped top_shape (names_of program_built) (walk_from nothing_held) (codes "journal") [] words
no_fault_to ToMake words = no_fault_when_stopped top_shape (names_of program_built) (walk_from nothing_held) (codes "make") [] words

fault_of : (c : Subcommand) (words : List Text)
    → built_fault program_built nothing_held (name_of c ∷ words) ≡ or_else (level_fault (shape_of c) [] nothing_held words false []) []
unfolding program_built top_shape solve_shape check_shape journal_shape make_shape defaults_fault
fault_of ToSolve words = rw (no_fault_to ToSolve words) (rw (walk_to ToSolve words) refl)
fault_of ToCheck words = rw (no_fault_to ToCheck words) (rw (walk_to ToCheck words) refl)
fault_of ToJournal words = rw (no_fault_to ToJournal words) (rw (walk_to ToJournal words) refl)
fault_of ToMake words = rw (no_fault_to ToMake words) (rw (walk_to ToMake words) refl)

values_of : (c : Subcommand) (words : List Text)
    → command_met (entered program_built (stop_after program_built.top.rules (names_of program_built) (name_of c ∷ words))) ≡ meaning_of c (rows_after (shape_of c).rules [] words)
unfolding program_built top_shape solve_shape check_shape journal_shape make_shape
values_of ToSolve words = ap (λ (w : Walk). command_met (entered program_built w.stopped)) (walk_to ToSolve words)
values_of ToCheck words = ap (λ (w : Walk). command_met (entered program_built w.stopped)) (walk_to ToCheck words)
values_of ToJournal words = ap (λ (w : Walk). command_met (entered program_built w.stopped)) (walk_to ToJournal words)
values_of ToMake words = ap (λ (w : Walk). command_met (entered program_built w.stopped)) (walk_to ToMake words)

pub by_words : (c : Subcommand) (words : List Text)
    → reading_of_words (name_of c ∷ words) ≡ unless_faulty (level_fault (shape_of c) [] nothing_held words false []) (meaning_of c (rows_after (shape_of c).rules [] words))
by_words c words = by_built (name_of c ∷ words) ∙ ap₂ unless_faulty (fault_of c words ∙ or_none _) (values_of c words)

-- ---- what the walks ask of them

places_of_solve : HasPlaces solve_shape 1 (Kind ∷ FirstFile ∷ SecondFile ∷ [])
unfolding solve_shape plainless_rules
places_of_solve = (record { by_index = refl; by_id = refl; next = refl }, (record { by_index = refl; by_id = refl; next = refl }, (record { by_index = refl; by_id = refl; next = refl }, tt)))

options_of_solve : (o : ValuedOption) → is_of_solve o ≡ true → HasOption solve_shape o
unfolding solve_shape plainless_rules
options_of_solve Row is = record { by_long = refl; by_id = refl }
options_of_solve Rewrite is = cc
options_of_solve _ is = record { by_long = refl; by_id = refl }

-- `solve` has every flag
pub all_flags_of_solve : (f : FlagOption) → is_flag_of_solve f ≡ true
all_flags_of_solve Plain = refl
all_flags_of_solve _ = refl

flags_of_solve : (f : FlagOption) → is_flag_of_solve f ≡ true → HasFlag solve_shape f
unfolding solve_shape plainless_rules
flags_of_solve Plain is = refl
flags_of_solve _ is = refl

solve_is_strict : solve_shape.args_override_self ≡ false
unfolding solve_shape plainless_rules
solve_is_strict = refl

pub solve_takes : Takes solve_shape is_of_solve is_flag_of_solve (Kind ∷ FirstFile ∷ SecondFile ∷ [])
solve_takes = record {
  strict = solve_is_strict;
  option = options_of_solve;
  flag = flags_of_solve;
  each_place = places_of_solve;
  apart = ((refl, (refl, tt)), ((refl, tt), (tt, tt)));
}

places_of_check : HasPlaces check_shape 1 (Kind ∷ CertificateFile ∷ FirstFile ∷ SecondFile ∷ [])
unfolding check_shape flagless_rules
places_of_check = (
  record { by_index = refl; by_id = refl; next = refl },
  (record { by_index = refl; by_id = refl; next = refl }, (record { by_index = refl; by_id = refl; next = refl }, (record { by_index = refl; by_id = refl; next = refl }, tt))),
)

options_of_check : (o : ValuedOption) → is_of_check o ≡ true → HasOption check_shape o
unfolding check_shape flagless_rules
options_of_check Row is = record { by_long = refl; by_id = refl }
options_of_check Workers is = record { by_long = refl; by_id = refl }
options_of_check Rewrite is = record { by_long = refl; by_id = refl }
options_of_check _ is = cc

check_is_strict : check_shape.args_override_self ≡ false
unfolding check_shape flagless_rules
check_is_strict = refl

flags_of_check : (f : FlagOption) → is_flag_of_check f ≡ true → HasFlag check_shape f
unfolding check_shape flagless_rules
flags_of_check Plain is = cc
flags_of_check Swamp is = refl
flags_of_check Reachable is = refl

pub check_takes : Takes check_shape is_of_check is_flag_of_check (Kind ∷ CertificateFile ∷ FirstFile ∷ SecondFile ∷ [])
check_takes = record {
  strict = check_is_strict;
  option = options_of_check;
  flag = flags_of_check;
  each_place = places_of_check;
  apart = ((refl, (refl, (refl, tt))), ((refl, (refl, tt)), ((refl, tt), (tt, tt))));
}

places_of_journal : HasPlaces journal_shape 1 (Kind ∷ JournalFile ∷ FirstFile ∷ SecondFile ∷ [])
unfolding journal_shape journal_rules
places_of_journal = (
  record { by_index = refl; by_id = refl; next = refl },
  (record { by_index = refl; by_id = refl; next = refl }, (record { by_index = refl; by_id = refl; next = refl }, (record { by_index = refl; by_id = refl; next = refl }, tt))),
)

options_of_journal : (o : ValuedOption) → is_of_journal o ≡ true → HasOption journal_shape o
unfolding journal_shape journal_rules
options_of_journal Row is = record { by_long = refl; by_id = refl }
options_of_journal _ is = cc

journal_is_strict : journal_shape.args_override_self ≡ false
unfolding journal_shape journal_rules
journal_is_strict = refl

flags_of_journal : (f : FlagOption) → is_flag_of_journal f ≡ true → HasFlag journal_shape f
unfolding journal_shape journal_rules
flags_of_journal Reachable is = refl
flags_of_journal _ is = cc

pub journal_takes : Takes journal_shape is_of_journal is_flag_of_journal (Kind ∷ JournalFile ∷ FirstFile ∷ SecondFile ∷ [])
journal_takes = record {
  strict = journal_is_strict;
  option = options_of_journal;
  flag = flags_of_journal;
  each_place = places_of_journal;
  apart = ((refl, (refl, (refl, tt))), ((refl, (refl, tt)), ((refl, tt), (tt, tt))));
}

places_of_make : HasPlaces make_shape 1 (Kind ∷ Seed ∷ Size ∷ [])
unfolding make_shape
places_of_make = (record { by_index = refl; by_id = refl; next = refl }, (record { by_index = refl; by_id = refl; next = refl }, (record { by_index = refl; by_id = refl; next = refl }, tt)))

options_of_make : (o : ValuedOption) → is_of_make o ≡ true → HasOption make_shape o
unfolding make_shape
options_of_make Workers is = record { by_long = refl; by_id = refl }
options_of_make _ is = cc

make_is_strict : make_shape.args_override_self ≡ false
unfolding make_shape
make_is_strict = refl

pub make_takes : Takes make_shape is_of_make no_flag (Kind ∷ Seed ∷ Size ∷ [])
make_takes = record {
  strict = make_is_strict;
  option = options_of_make;
  flag = λ f is. cc;
  each_place = places_of_make;
  apart = ((refl, (refl, tt)), ((refl, tt), (tt, tt)));
}

-- ---- defaults

no_default_in_valued : (options : List ValuedOption) → AllByRecursion HasNoDefault (map valued_rule options)
no_default_in_valued [] = tt
no_default_in_valued (o ∷ os) = (refl, no_default_in_valued os)

pub no_default_in_solve : AllByRecursion HasNoDefault plainless_rules
unfolding plainless_rules
no_default_in_solve = (refl, (refl, (refl, no_default_in_valued solve_options)))

pub rules_of_solve : solve_shape.rules ≡ plainless_rules ++ map flag_rule solve_flags
unfolding solve_shape
rules_of_solve = refl

pub rules_of_check : check_shape.rules ≡ flagless_rules ++ map flag_rule check_flags
unfolding check_shape
rules_of_check = refl

pub no_default_in_check : AllByRecursion HasNoDefault flagless_rules
unfolding flagless_rules
no_default_in_check = (refl, (refl, (refl, (refl, no_default_in_valued check_options))))

pub rules_of_journal : journal_shape.rules ≡ journal_rules ++ map flag_rule journal_flags
unfolding journal_shape
rules_of_journal = refl

pub no_default_in_journal : AllByRecursion HasNoDefault journal_rules
unfolding journal_rules
no_default_in_journal = (refl, (refl, (refl, (refl, no_default_in_valued journal_options))))

pub no_default_in_make : AllByRecursion HasNoDefault make_shape.rules
unfolding make_shape
no_default_in_make = (refl, (refl, (refl, no_default_in_valued make_options)))
