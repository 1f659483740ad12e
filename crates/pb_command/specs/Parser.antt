-- The command that is declared, in the words of clap.
use Rattle.std.specs.Prelude.{ℕ, List, [], ◌∷◌, true, Some, codes, map}
use Rattle.clap.specs.Words.{App, Rule, Text, new_app, new_rule, with_rule, with_subcommand}
use Rattle.clap.specs.declared.builder.action.ArgAction.TheVariants.{SetTrue}
use Rattle.clap.specs.declared.builder.value_parser.ValueParser.TheVariants as vp
use Rattle.pb_command.specs.declared.table.ValuedOption.{ValuedOption}
use Rattle.pb_command.specs.declared.table.FlagOption.{FlagOption}
use Rattle.pb_command.specs.Table.{Form, Number, OptionalNumber, FileName, OneOf, option_name, option_form, flag_name, solve_options, solve_flags, check_options, check_flags, journal_options, journal_flags, make_options}

-- `--NAME NUMBER`, a whole number from `least` to `most`
abbrev pub number_rule : Text → ℕ → ℕ → Rule
number_rule name least most =
    record (new_rule name) { long = Some name; parser = Some (vp.Unsigned least most) }

-- `--NAME TEXT`
abbrev pub text_rule : Text → Rule
text_rule name = record (new_rule name) { long = Some name }

-- `--NAME`, without a value
abbrev pub flag_rule : Text → Rule
flag_rule name = record (new_rule name) { long = Some name; action = Some SetTrue }

-- a required word
abbrev pub required_rule : Text → Rule
required_rule name = record (new_rule name) { required = true }

-- a required word, a whole number from `least` to `most`
abbrev pub required_number_rule : Text → ℕ → ℕ → Rule
required_number_rule name least most =
    record (new_rule name) { required = true; parser = Some (vp.Unsigned least most) }

-- the greatest seed of a made task, 2^32 - 1
abbrev pub seed_most : ℕ
seed_most = 4294967295

-- the greatest number that the word for a size may write, 2^64 - 1
abbrev pub size_word_most : ℕ
size_word_most = 18446744073709551615

-- Clap tests a number, and takes any text in the place of a word: its reader tests that.
abbrev pub rule_by : Text → Form → Rule
rule_by name (Number range) = number_rule name range.least range.most
rule_by name (OptionalNumber least most) = number_rule name least most
rule_by name FileName = text_rule name
rule_by name (OneOf words) = text_rule name

-- an option of the table
abbrev pub option_rule : ValuedOption → Rule
option_rule option = rule_by (option_name option) (option_form option)

abbrev pub with_rules : App → List Rule → App
with_rules a [] = a
with_rules a (r ∷ rs) = with_rules (with_rule a r) rs

-- a command with these words in their places, these options and these flags
abbrev pub command_with : Text → (places : List Rule) → List ValuedOption → List FlagOption → App
command_with name places options flags =
    with_rules (with_rules (with_rules (new_app name) places) (map option_rule options))
    (map (λ flag. flag_rule (flag_name flag)) flags)

-- `solve KIND FILE [FILE]` and its options
unfoldable pub the_solve : App
the_solve =
    command_with (codes "solve") (required_rule (codes "KIND")
    ∷ required_rule (codes "FIRST_FILE") ∷ new_rule (codes "SECOND_FILE") ∷ []) solve_options
    solve_flags

-- `check KIND CERT FILE [FILE]` and its options
unfoldable pub the_check : App
the_check =
    command_with (codes "check") (required_rule (codes "KIND")
    ∷ required_rule (codes "CERTIFICATE") ∷ required_rule (codes "FIRST_FILE")
    ∷ new_rule (codes "SECOND_FILE") ∷ []) check_options check_flags

-- `journal KIND JOURNAL FILE [FILE]` and its options
unfoldable pub the_journal : App
the_journal =
    command_with (codes "journal") (required_rule (codes "KIND")
    ∷ required_rule (codes "JOURNAL") ∷ required_rule (codes "FIRST_FILE")
    ∷ new_rule (codes "SECOND_FILE") ∷ []) journal_options journal_flags

-- `make KIND SEED SIZE` and its options
unfoldable pub the_make : App
the_make =
    command_with (codes "make") (required_rule (codes "KIND")
    ∷ required_number_rule (codes "SEED") 0 seed_most ∷ required_number_rule (codes "SIZE") 0
    size_word_most ∷ []) make_options []

-- the program before it has subcommands: no word asks for help or the version
abbrev pub bare_program : App
bare_program = record (new_app (codes "pbnf")) {
  top = record (new_app (codes "pbnf")).top {
    no_binary_name = true;
    disable_help_flag = true;
    disable_help_subcommand = true;
    subcommand_required = true;
  };
}

unfoldable pub the_program : App
the_program =
    with_subcommand (with_subcommand (with_subcommand (with_subcommand bare_program the_solve.top)
    the_check.top) the_journal.top) the_make.top
