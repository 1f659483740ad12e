-- What the answers of the reader mean.
use Rattle.std.specs.Prelude.{◌≡◌, ◌≤◌, ◌++◌, ◌∷◌, ◌-◌, ℕ, List, [], Some, Result, MatchResult, codes, length, option_map, slice_get}
use Rattle.pb_command.specs.Values.{InputNames, GridNames, StripsNames, Grid, Tiles, Strips}
use Rattle.pb_command.specs.Meaning.{Meaning, Solve, Falling, Check, Journal, Make, SolveMeaning, FallingMeaning, CheckMeaning, JournalMeaning, MakeMeaning, Reading, Read, Refused}
use Rattle.pb_command.specs.declared.command.GridFiles.{GridFiles}
use Rattle.pb_command.specs.declared.command.StripsFiles.{StripsFiles}
use Rattle.pb_command.specs.declared.command.Input.{Input}
use Rattle.pb_command.specs.declared.command.Input.TheVariants as kinds
use Rattle.pb_command.specs.declared.command.SolveCommand.{SolveCommand}
use Rattle.pb_command.specs.declared.command.FallingCommand.{FallingCommand}
use Rattle.pb_command.specs.declared.command.CheckCommand.{CheckCommand}
use Rattle.pb_command.specs.declared.command.JournalCommand.{JournalCommand}
use Rattle.pb_command.specs.declared.command.MakeCommand.{MakeCommand}
use Rattle.pb_command.specs.declared.command.CommandLine.{CommandLine}
use Rattle.pb_command.specs.declared.command.CommandLine.TheVariants as command
use Rattle.pb_command.specs.declared.refusal.CommandFault.{CommandFault}
use Rattle.pb_command.specs.declared.refusal.CommandFault.TheVariants as fault
use Rattle.pb_command.specs.declared.refusal.CommandRefusal.{CommandRefusal}
use Rattle.pb_command.specs.declared.refusal.CommandRefusal.TheVariants as refusal

abbrev pub grid_meant : GridFiles → GridNames
grid_meant g = record { map = g.map.now; scenario = g.scenario.now }

abbrev pub strips_meant : StripsFiles → StripsNames
strips_meant s = record { domain = s.domain.now; problem = s.problem.now }

abbrev pub input_meant : Input → InputNames
input_meant (kinds.Grid g) = Grid (grid_meant g)
input_meant (kinds.Tiles board) = Tiles board.now
input_meant (kinds.Strips s) = Strips (strips_meant s)

abbrev pub solve_meant : SolveCommand → SolveMeaning
solve_meant s = record {
  input = input_meant s.input;
  options = s.options;
  settings = s.settings;
  engine = s.engine;
  effort = s.effort;
  tables = option_map (λ t. t.now) s.tables;
  certificate = option_map (λ t. t.now) s.certificate;
  journal = option_map (λ t. t.now) s.journal;
}

abbrev pub falling_meant : FallingCommand → FallingMeaning
falling_meant s = record { solve = solve_meant s.solve; steps = s.steps }

abbrev pub check_meant : CheckCommand → CheckMeaning
check_meant s =
    record {
      input = input_meant s.input;
      certificate = s.certificate.now;
      options = s.options;
      workers = s.workers;
      rewrite = option_map (λ t. t.now) s.rewrite;
    }

abbrev pub journal_meant : JournalCommand → JournalMeaning
journal_meant s =
    record { input = input_meant s.input; journal = s.journal.now; options = s.options }

abbrev pub make_meant : MakeCommand → MakeMeaning
make_meant s = record { kind = s.kind; seed = s.seed; size = s.size; workers = s.workers }

abbrev pub meaning_of : CommandLine → Meaning
meaning_of (command.Solve s) = Solve (solve_meant s)
meaning_of (command.Falling s) = Falling (falling_meant s)
meaning_of (command.Check s) = Check (check_meant s)
meaning_of (command.Journal s) = Journal (journal_meant s)
meaning_of (command.Make s) = Make (make_meant s)

-- an answer is what the words mean, or the test that they fail
abbrev pub Answers : {T : Type 0} → (T → Meaning) → Reading → Result T CommandFault → Type 0
Answers meant reading result =
    MatchResult result (λ x. reading ≡ Read (meant x)) (λ f. reading ≡ Refused f)

-- the last byte is a line feed
abbrev pub EndsLine : List ℕ → Type 0
EndsLine text = slice_get text (length text - 1) ≡ Some 10

-- a line of this text alone
abbrev pub IsLine : List ℕ → List ℕ → Type 0
IsLine line text = text ≡ line ++ 10 ∷ []

-- how many bytes a text of clap has at most
abbrev pub text_most : ℕ
text_most = 65536

-- a text for words that are out of form: it begins with `error: `, its last line is ended, and it
-- isn't too long. The rest is clap's.
pub record IsErrorText (text : List ℕ) : Type 0 where
  pub rest : List ℕ
  pub begins : text ≡ codes "error: " ++ rest
  pub ends : EndsLine text
  pub few : length text ≤ text_most

-- what is printed: a line of the program, or clap's text
abbrev pub IsPrinted : CommandFault → List ℕ → Type 0
IsPrinted fault.Files text = IsLine (codes "words files") text
IsPrinted fault.Weight text = IsLine (codes "words weight") text
IsPrinted fault.Names text = IsLine (codes "words names") text
IsPrinted fault.Engine text = IsLine (codes "words engine") text
IsPrinted fault.Falling text = IsLine (codes "words falling") text
IsPrinted fault.Estimate text = IsLine (codes "words estimate") text
IsPrinted fault.Size text = IsLine (codes "words size") text
IsPrinted fault.Form text = IsErrorText text
IsPrinted fault.Kind text = IsErrorText text

-- the refusal of words that fail this test, unless memory ran out
abbrev pub IsRefusal : CommandFault → CommandRefusal → Type 0
IsRefusal f (refusal.Words g message) = (f ≡ g) × IsPrinted f message
IsRefusal f refusal.Memory = Unit {0}

-- words are refused for the test that they fail
abbrev pub IsCause : Reading → CommandRefusal → Type 0
IsCause reading (refusal.Words f message) = (reading ≡ Refused f) × IsPrinted f message
IsCause reading refusal.Memory = Unit {0}
