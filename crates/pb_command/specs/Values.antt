-- What the values of words are.
use Rattle.std.specs.Prelude.{ℕ, ◌≤◌, ◌&&◌, ◌||◌, ⊤, Bool, true, false, List, [], ◌∷◌, Option, None, Some, if◌then◌else◌, nat_le, nat_lt, codes}
use Rattle.std.specs.Option.{option_map_or}
use Rattle.std.specs.Str.{bytes_eq}
use Rattle.std.specs.Str.Parse.{digits_value, without_leading_plus}
use Rattle.clap.specs.Words.{Row, Text, first_of, one_of}
use Rattle.clap.specs.ValueTests.{is_unsigned_in}
use Rattle.pb_task.specs.declared.kind.Kind.{Kind}
use Rattle.pb_task.specs.declared.kind.Kind.TheVariants as kind
use Rattle.pb_task.specs.Kinds.{kind_name}
use Rattle.pb_task.specs.declared.grounding.Grounding.{Grounding}
use Rattle.pb_task.specs.declared.grounding.Grounding.TheVariants as grounding
use Rattle.pb_command.specs.declared.command.Engine.{Engine}
use Rattle.pb_command.specs.declared.command.Engine.TheVariants.{Leases, Owners}
use Rattle.pb_command.specs.declared.table.ValuedOption.{ValuedOption}
use Rattle.pb_command.specs.declared.table.ValuedOption.TheVariants.{Engine as EngineOption, Estimate, Effort}
use Rattle.pb_command.specs.declared.table.FlagOption.{FlagOption}
use Rattle.pb_command.specs.declared.table.ValueForm.{ValueForm}
use Rattle.pb_command.specs.declared.table.ValueForm.TheVariants as forms
use Rattle.pb_command.specs.declared.table.TableEntry.{TableEntry}
use Rattle.pb_command.specs.Parser.{seed_most, size_word_most}
use Rattle.pb_command.specs.Table.{Form, Number, OptionalNumber, FileName, OneOf, Entry, engine_word, tables_word, option_name, option_form, flag_name, is_value}

-- the names of the files of a grid
pub record GridNames : Type 0 where
  pub map : Text
  pub scenario : Text

-- the names of the files of a STRIPS problem
pub record StripsNames : Type 0 where
  pub domain : Text
  pub problem : Text

-- the task that a command names: its kind, with the names of its files, for tiles that of the
-- board's
pub data InputNames : Type 0 where
  Grid : GridNames → InputNames
  Tiles : Text → InputNames
  Strips : StripsNames → InputNames

-- the kind that a word names
abbrev pub kind_of_text : Option Text → Option Kind
kind_of_text None = None
kind_of_text (Some word) = if bytes_eq word (kind_name kind.Grid) then Some kind.Grid
    else (if bytes_eq word (kind_name kind.Tiles) then Some kind.Tiles
    else (if bytes_eq word (kind_name kind.Strips) then Some kind.Strips else None))

-- a grid and a STRIPS problem have two files, tiles have one
abbrev pub input_of : Kind → Text → Option Text → Option InputNames
input_of kind.Grid first (Some second) = Some (Grid (record { map = first; scenario = second }))
input_of kind.Grid first None = None
input_of kind.Tiles first None = Some (Tiles first)
input_of kind.Tiles first (Some second) = None
input_of kind.Strips first (Some second) =
    Some (Strips (record { domain = first; problem = second }))
input_of kind.Strips first None = None

-- the number that a value writes, if it lies in the range, and the default if there is no value
abbrev pub number_in : ℕ → ℕ → Option ℕ → Option Text → Option ℕ
number_in least most default None = default
number_in least most default (Some text) =
    if is_unsigned_in least most text then Some (digits_value 10 (without_leading_plus text))
    else None

-- what the code knows of a row of the table
abbrev pub form_meant : ValueForm → Form
form_meant (forms.Number least most default) =
    Number (record { least = least; most = most; default = default })
form_meant (forms.OptionalNumber least most) = OptionalNumber least most
form_meant forms.FileName = FileName
form_meant (forms.OneOf first second) = OneOf (first.now ∷ second.now ∷ [])
form_meant (forms.OneWord only) = OneOf (only.now ∷ [])

abbrev pub entry_meant : TableEntry → Entry
entry_meant e = record { name = e.name.now; form = form_meant e.form }

-- the default lies in the range, and a range without a default has a number
abbrev pub HasDefault : ValueForm → Type 0
HasDefault (forms.Number least most default) = (least ≤ default) × (default ≤ most)
HasDefault (forms.OptionalNumber least most) = least ≤ most
HasDefault forms.FileName = ⊤
HasDefault (forms.OneOf first second) = ⊤
HasDefault (forms.OneWord only) = ⊤

-- whether the value of an option, if it is given, is one of this form
abbrev pub fits : Form → Option Text → Bool
fits f given = option_map_or (λ text. is_value f text) given true

-- the text of a value: a number is read from the text by clap, and a name or a word is the text
abbrev pub text_by : Form → Text → List Row → Option Text
text_by (Number range) name rows = one_of name rows
text_by (OptionalNumber least most) name rows = one_of name rows
text_by FileName name rows = first_of name rows
text_by (OneOf words) name rows = first_of name rows

-- whether the value of this option is of its form
abbrev pub option_fits : ValuedOption → List Row → Bool
option_fits option rows =
    fits (option_form option) (text_by (option_form option) (option_name option) rows)

-- whether the values of these options are of their forms
abbrev pub values_fit : List ValuedOption → List Row → Bool
values_fit [] rows = true
values_fit (option ∷ options) rows = option_fits option rows && values_fit options rows

-- the number that a value writes, or else this one
abbrev pub number_or : (default : ℕ) → Option ℕ → ℕ
number_or default None = default
number_or default (Some n) = n

-- The number of an option: the one that its value writes, or the default if it isn't given. A value
-- out of the range is refused, and the default stands for it here. An option without a default is
-- read by `optional_number_at`, and its least number stands for it here.
abbrev pub number_read : Form → Option Text → ℕ
number_read (Number range) given =
    number_or range.default (number_in range.least range.most (Some range.default) given)
number_read (OptionalNumber least most) given = least
number_read FileName given = 0
number_read (OneOf words) given = 0

abbrev pub number_at : List Row → ValuedOption → ℕ
number_at rows option = number_read (option_form option) (one_of (option_name option) rows)

-- The number of an option without a default, if it is given. A value out of the range is refused,
-- and no number stands for it here.
abbrev pub optional_number_read : Form → Option Text → Option ℕ
optional_number_read (OptionalNumber least most) given = number_in least most None given
optional_number_read (Number range) given = None
optional_number_read FileName given = None
optional_number_read (OneOf words) given = None

abbrev pub optional_number_at : List Row → ValuedOption → Option ℕ
optional_number_at rows option =
    optional_number_read (option_form option) (one_of (option_name option) rows)

-- the text of an option, if it is given
abbrev pub text_at : List Row → ValuedOption → Option Text
text_at rows option = first_of (option_name option) rows

-- The engine that a word names, and the default if none is given. A word that names none is
-- refused, and the default stands for it here.
abbrev pub engine_of : Option Text → Engine
engine_of None = Leases
engine_of (Some word) = if bytes_eq word (engine_word Owners) then Owners else Leases

abbrev pub engine_at : List Row → Engine
engine_at rows = engine_of (text_at rows EngineOption)

-- How much is looked at to find tables for the estimate: this number if the word asks for them, and
-- none if no word is given. A word other than that one is refused, and asks for nothing here.
abbrev pub effort_of : (estimate : Option Text) → (effort : ℕ) → Option ℕ
effort_of None effort = None
effort_of (Some word) effort = if bytes_eq word tables_word then Some effort else None

abbrev pub effort_at : List Row → Option ℕ
effort_at rows = effort_of (text_at rows Estimate) (number_at rows Effort)

-- a seed from 0 to 2^32 - 1
abbrev pub seed_of : List Row → Option ℕ
seed_of rows = number_in 0 seed_most None (one_of (codes "SEED") rows)

-- a whole number below 2^64, in the place of the size
abbrev pub size_of : List Row → Option ℕ
size_of rows = number_in 0 size_word_most None (one_of (codes "SIZE") rows)

-- whether a flag is given
abbrev pub flag_of : Text → List Row → Bool
flag_of name rows = option_map_or (λ text. bytes_eq text (codes "true")) (first_of name rows) false

abbrev pub flag_at : List Row → FlagOption → Bool
flag_at rows flag = flag_of (flag_name flag) rows

-- which ground atoms and actions have numbers: with `--reachable` those that are reached, and else
-- all
abbrev pub grounding_by : (reachable : Bool) → Grounding
grounding_by true = grounding.Reachable
grounding_by false = grounding.All

-- the least and the greatest size of a made task: the side of a grid, the moves of a 3 by 3 board,
-- and the blocks of a STRIPS problem
abbrev pub least_size : Kind → ℕ
least_size kind.Grid = 1
least_size kind.Tiles = 0
least_size kind.Strips = 1

abbrev pub most_size : Kind → ℕ
most_size kind.Grid = 2048
most_size kind.Tiles = 1000000
most_size kind.Strips = 14

abbrev pub is_size : Kind → ℕ → Bool
is_size k n = nat_le (least_size k) n && nat_le n (most_size k)

-- both names are given, and they are one
abbrev pub are_one_name : Option Text → Option Text → Bool
are_one_name (Some a) (Some b) = bytes_eq a b
are_one_name _ _ = false

-- whether a journal is asked for of the engine that keeps none
abbrev pub is_journal_of_owners : Engine → (journal : Option Text) → Bool
is_journal_of_owners Owners (Some name) = true
is_journal_of_owners _ _ = false

-- whether falling weights are asked for of the engine that has none
abbrev pub is_falling_of_owners : Engine → (falling : Option ℕ) → Bool
is_falling_of_owners Owners (Some steps) = true
is_falling_of_owners _ _ = false

-- whether a journal is asked for of a search with falling weights
abbrev pub is_journal_of_falling : (falling : Option ℕ) → (journal : Option Text) → Bool
is_journal_of_falling (Some steps) (Some name) = true
is_journal_of_falling _ _ = false

-- whether two of these are asked for: tables that are looked for, a file of tables, and a pattern
-- database
abbrev pub are_two_estimates : (effort : Option ℕ) → (tables : Option Text) → (pattern : ℕ) → Bool
are_two_estimates None None pattern = false
are_two_estimates None (Some file) pattern = nat_lt 0 pattern
are_two_estimates (Some effort) None pattern = nat_lt 0 pattern
are_two_estimates (Some effort) (Some file) pattern = true

-- whether a file of the task has this name
abbrev pub is_input_name : InputNames → Text → Bool
is_input_name (Grid names) name = bytes_eq name names.map || bytes_eq name names.scenario
is_input_name (Tiles board) name = bytes_eq name board
is_input_name (Strips names) name = bytes_eq name names.domain || bytes_eq name names.problem

-- whether a name is given that a file has which is loaded: the certificate or a file of the task
abbrev pub is_loaded_name : Option Text → (certificate : Text) → InputNames → Bool
is_loaded_name None certificate input = false
is_loaded_name (Some name) certificate input =
    bytes_eq name certificate || is_input_name input name
