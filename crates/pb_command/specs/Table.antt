-- The options of all commands, in one table: the name of each, and what a value of it is. For a
-- number that is its range, and the number that stands for an option that isn't given, if there is
-- one. For a word it is the list of words. After the table stands which command has which options.
use Rattle.std.specs.Prelude.{ℕ, ◌≤◌, ⊤, Bool, true, List, [], ◌∷◌, codes}
use Rattle.std.specs.List.{list_any}
use Rattle.std.specs.Str.{bytes_eq}
use Rattle.clap.specs.Words.{Text}
use Rattle.clap.specs.ValueTests.{is_unsigned_in}
use Rattle.pb_command.specs.declared.command.Engine.{Engine}
use Rattle.pb_command.specs.declared.command.Engine.TheVariants.{Leases, Owners}
use Rattle.pb_command.specs.declared.table.ValuedOption.{ValuedOption}
use Rattle.pb_command.specs.declared.table.ValuedOption.TheVariants.{Row, Workers, Engine as EngineOption, Num, Den, Budget, Lot, Blocks, Pattern, Estimate, Effort, Tables, Certificate, Journal, Rewrite, Falling}
use Rattle.pb_command.specs.declared.table.FlagOption.{FlagOption}
use Rattle.pb_command.specs.declared.table.FlagOption.TheVariants.{Plain, Swamp, Reachable}

-- whole numbers from `least` to `most`, and the one that stands for an option that isn't given
pub record Range : Type 0 where
  pub least : ℕ
  pub most : ℕ
  pub default : ℕ

-- what a value of an option is: a number in a range, with a default or without one, the name of a
-- file, or one of some words
pub data Form : Type 0 where
  Number : Range → Form
  OptionalNumber : (least most : ℕ) → Form
  FileName : Form
  OneOf : List Text → Form

-- a row of the table
pub record Entry : Type 0 where
  pub name : Text
  pub form : Form

abbrev pub number : Text → (least most default : ℕ) → Entry
number name least most default =
    record { name = name; form = Number (record { least = least; most = most; default = default }) }

abbrev pub optional_number : Text → (least most : ℕ) → Entry
optional_number name least most = record { name = name; form = OptionalNumber least most }

abbrev pub file_name : Text → Entry
file_name name = record { name = name; form = FileName }

abbrev pub word : Text → List Text → Entry
word name words = record { name = name; form = OneOf words }

-- the word for an engine
abbrev pub engine_word : Engine → Text
engine_word Leases = codes "pbnf"
engine_word Owners = codes "hda"

-- the word that asks for tables for the estimate
abbrev pub tables_word : Text
tables_word = codes "tables"

-- The table: the row of the scenario, how many workers search or judge, and the engine of a search.
-- The numerator and the denominator of the weight, and how many expansions a search may do, at most
-- 2^40. How many expansions a lease gets at most, at most 2^20, and how many blocks the abstract
-- graph has at most. The number of the pattern database, 0 for none. Whether tables are looked for,
-- from which the estimate is read, and how much is looked at to find them. The name of a file that
-- has such tables. The names under which the certificate and the journal are saved, and under which
-- a certificate that was accepted is saved anew. In how many steps the weight falls; without this
-- option there is one run at one weight.
abbrev pub entry_of : ValuedOption → Entry
entry_of Row = number (codes "row") 0 1000000 0
entry_of Workers = number (codes "workers") 1 64 1
entry_of EngineOption = word (codes "engine") (engine_word Leases ∷ engine_word Owners ∷ [])
entry_of Num = number (codes "num") 1 1000 1
entry_of Den = number (codes "den") 1 1000 1
entry_of Budget = number (codes "budget") 1 1099511627776 16777216
entry_of Lot = number (codes "lot") 1 1048576 256
entry_of Blocks = number (codes "blocks") 16 4096 256
entry_of Pattern = number (codes "pattern") 0 12 0
entry_of Estimate = word (codes "estimate") (tables_word ∷ [])
entry_of Effort = number (codes "effort") 1 20 10
entry_of Tables = file_name (codes "tables")
entry_of Certificate = file_name (codes "cert")
entry_of Journal = file_name (codes "trace")
entry_of Rewrite = file_name (codes "rewrite")
entry_of Falling = optional_number (codes "falling") 1 20

abbrev pub option_name : ValuedOption → Text
option_name option = (entry_of option).name

abbrev pub option_form : ValuedOption → Form
option_form option = (entry_of option).form

-- The options without a value: no block is marked hot, entering swamp costs 2, and of a STRIPS
-- problem only the atoms and actions that are reached have numbers.
abbrev pub flag_name : FlagOption → Text
flag_name Plain = codes "plain"
flag_name Swamp = codes "swamp"
flag_name Reachable = codes "reachable"

-- ---- which command has which options, in the order in which clap knows them

abbrev pub solve_options : List ValuedOption
solve_options =
    Row ∷ Workers ∷ EngineOption ∷ Num ∷ Den ∷ Budget ∷ Lot ∷ Blocks ∷ Pattern ∷ Estimate
    ∷ Effort ∷ Tables ∷ Certificate ∷ Journal ∷ Falling ∷ []

abbrev pub solve_flags : List FlagOption
solve_flags = Plain ∷ Swamp ∷ Reachable ∷ []

abbrev pub check_options : List ValuedOption
check_options = Row ∷ Workers ∷ Rewrite ∷ []

abbrev pub check_flags : List FlagOption
check_flags = Swamp ∷ Reachable ∷ []

abbrev pub journal_options : List ValuedOption
journal_options = Row ∷ []

abbrev pub journal_flags : List FlagOption
journal_flags = Reachable ∷ []

abbrev pub make_options : List ValuedOption
make_options = Workers ∷ []

-- ---- values

-- whether a text is a value of this form
abbrev pub is_value : Form → Text → Bool
is_value (Number range) text = is_unsigned_in range.least range.most text
is_value (OptionalNumber least most) text = is_unsigned_in least most text
is_value FileName text = true
is_value (OneOf words) text = list_any (λ word. bytes_eq word text) words

-- a number is a value of this form
abbrev pub IsWithin : Form → ℕ → Type 0
IsWithin (Number range) n = (range.least ≤ n) × (n ≤ range.most)
IsWithin (OptionalNumber least most) n = (least ≤ n) × (n ≤ most)
IsWithin FileName n = ⊤
IsWithin (OneOf words) n = ⊤

-- a number lies in the range of its option
abbrev pub IsInRangeOf : ValuedOption → ℕ → Type 0
IsInRangeOf option n = IsWithin (option_form option) n
