-- The texts that the program prints: of a plan, of a checked certificate, and of what is wrong with
-- one or with the input.
use Rattle.std.specs.Prelude.{ℕ, ◌<◌, Option, None, Some, List, ◌++◌, map, codes, All}
use Rattle.std.specs.Fmt.{decimal}
use Rattle.pb_model.specs.Space.{Space}
use Rattle.pb_model.specs.Plan.{Plan}
use Rattle.pb_model.specs.Weight.{Weight as SearchWeight}
use Rattle.pb_model.specs.Texts.{line, spaced, plan_report, weight_text}
use Rattle.pb_task.specs.declared.parts.TaskParts.{TaskParts}
use Rattle.pb_task.specs.Parts.{action_name}
use Rattle.pb_grid.specs.declared.error.GridError.{GridError}
use Rattle.pb_grid.specs.declared.error.GridError.TheVariants.{Header, Size, Rows, Cell, Scenario, NoRow, ScenarioSize, Outside, StartBlocked, GoalBlocked, Memory}
use Rattle.pb_tiles.specs.declared.error.TilesError.{TilesError}
use Rattle.pb_tiles.specs.declared.error.TilesError.TheVariants as tiles
use Rattle.pb_pddl.specs.declared.error.Want.{Want}
use Rattle.pb_pddl.specs.declared.error.Want.TheVariants as wants
use Rattle.pb_pddl.specs.declared.error.LeftOut.{LeftOut}
use Rattle.pb_pddl.specs.declared.error.LeftOut.TheVariants as left_out
use Rattle.pb_pddl.specs.declared.error.SyntaxError.{SyntaxError}
use Rattle.pb_pddl.specs.declared.error.SyntaxError.TheVariants as syntax
use Rattle.pb_lifted.specs.declared.refusal.File.{File}
use Rattle.pb_lifted.specs.declared.refusal.File.TheVariants.{Domain, Problem}
use Rattle.pb_lifted.specs.declared.refusal.Cause.{Cause}
use Rattle.pb_lifted.specs.declared.refusal.Cause.TheVariants as causes
use Rattle.pb_lifted.specs.declared.refusal.TypingRefusal.{TypingRefusal}
use Rattle.pb_lifted.specs.declared.refusal.TypingRefusal.TheVariants.{Named, TooManyObjects}
use Rattle.pb_strips.specs.declared.error.StripsError.{StripsError}
use Rattle.pb_strips.specs.declared.error.StripsError.TheVariants as strips
use Rattle.pb_tables.specs.declared.fault.TablesFault.{TablesFault}
use Rattle.pb_tables.specs.declared.fault.TablesFault.TheVariants as tables_faults
use Rattle.pb_tables.specs.Tables.{TablesValue}
use Rattle.pb_table_lines.specs.Lines.{line_number}
use Rattle.pb_journal.specs.declared.error.Why.{Why}
use Rattle.pb_journal.specs.declared.error.Why.TheVariants as why
use Rattle.pb_check.specs.declared.fault.Verdict.{Verdict}
use Rattle.pb_check.specs.declared.fault.Claim.TheVariants.{Bounded, Unsolvable}
use Rattle.pb_check.specs.declared.fault.CertificateFault.{CertificateFault}
use Rattle.pb_check.specs.declared.fault.CertificateFault.TheVariants.{Syntax, Kind, Width, Grounding, Pattern, Table, Unpaid, Weight, PlanStep, NotGoal, Cost, RowOrder, BadState, NoStart, GoalClosed, Missing, TooDear, Low}

-- a line of words and a number
abbrev pub with_number : (words : List ℕ) → (number : ℕ) → List ℕ
with_number words number = line (spaced words (decimal number))

-- a line of words and two numbers
abbrev pub with_numbers : (words : List ℕ) → (first second : ℕ) → List ℕ
with_numbers words first second = line (spaced words (spaced (decimal first) (decimal second)))

-- a line of words, two numbers and another word
abbrev pub with_numbers_and_word : (words : List ℕ) → (first second : ℕ) → (word : List ℕ) → List ℕ
with_numbers_and_word words first second word =
    line (spaced words (spaced (decimal first) (spaced (decimal second) word)))

-- ---- a plan

-- each is the number of an action
abbrev pub AreActions : Space → List ℕ → Type 0
AreActions space actions = All (λ action. action < space.actions) actions

-- a plan of a task: its cost and the number of its steps, the name of each step, and the bound
abbrev pub plan_text : TaskParts → Plan → (bound : ℕ) → List ℕ
plan_text parts plan bound = plan_report (map (action_name parts) plan.actions) plan.cost bound

-- what is claimed of a plan at a weight: the weight, and then the plan with its bound
abbrev pub claim_text : TaskParts → SearchWeight → Plan → (bound : ℕ) → List ℕ
claim_text parts weight plan bound = weight_text weight ++ plan_text parts plan bound

-- ---- a checked certificate

-- what an accepted certificate claims
abbrev pub verdict_text : Verdict → List ℕ
verdict_text (Bounded cost bound) =
    line (spaced (codes "accepted cost") (spaced (decimal cost)
    (spaced (codes "bound") (decimal bound))))
verdict_text Unsolvable = line (codes "accepted none")

-- what came out of a made task, by what its accepted certificate claims
abbrev pub made_text : Verdict → List ℕ
made_text (Bounded cost bound) =
    line (spaced (codes "cost") (spaced (decimal cost)
    (spaced (codes "bound") (spaced (decimal bound) (codes "accepted")))))
made_text Unsolvable = line (codes "none accepted")

-- why a certificate is refused: the fault's name and its numbers
abbrev pub fault_text : CertificateFault → List ℕ
fault_text (Syntax at) = with_number (codes "refused Syntax") at
fault_text Kind = line (codes "refused Kind")
fault_text (Width said wanted) = with_numbers (codes "refused Width") said wanted
fault_text Grounding = line (codes "refused Grounding")
fault_text Pattern = line (codes "refused Pattern")
fault_text (Table at) = with_number (codes "refused Table") at
fault_text (Unpaid sum action) = with_numbers (codes "refused Unpaid") sum action
fault_text Weight = line (codes "refused Weight")
fault_text (PlanStep step) = with_number (codes "refused PlanStep") step
fault_text NotGoal = line (codes "refused NotGoal")
fault_text (Cost said real) = with_numbers (codes "refused Cost") said real
fault_text (RowOrder at) = with_number (codes "refused RowOrder") at
fault_text (BadState at) = with_number (codes "refused BadState") at
fault_text NoStart = line (codes "refused NoStart")
fault_text (GoalClosed at) = with_number (codes "refused GoalClosed") at
fault_text (Missing at action) = with_numbers (codes "refused Missing") at action
fault_text (TooDear at action) = with_numbers (codes "refused TooDear") at action
fault_text (Low at) = with_number (codes "refused Low") at

-- ---- a judged journal

-- how many events an accepted journal has
abbrev pub journal_report : (events : ℕ) → List ℕ
journal_report events = with_number (codes "journal") events

-- why a line is refused, in a word
abbrev pub why_word : Why → List ℕ
why_word why.Spelling = codes "Spelling"
why_word why.Settings = codes "Settings"
why_word why.Ended = codes "Ended"
why_word why.Worker = codes "Worker"
why_word why.Holds = codes "Holds"
why_word why.Block = codes "Block"
why_word why.Scope = codes "Scope"
why_word why.Hot = codes "Hot"
why_word why.Quota = codes "Quota"
why_word why.NoEnd = codes "NoEnd"
why_word why.Trouble = codes "Trouble"
why_word why.Short = codes "Short"

-- the first line of a journal that is refused, and why
abbrev pub journal_fault_text : (line_number : ℕ) → Why → List ℕ
journal_fault_text line_number reason =
    line (spaced (codes "refused") (spaced (why_word reason) (decimal line_number)))

-- ---- the input: maps and tiles

-- why the texts of a map and a scenario are refused: the error's name and its numbers; out of
-- memory has no text
abbrev pub input_text : GridError → Option (List ℕ)
input_text (Header at) = Some (with_number (codes "input Header") at)
input_text Size = Some (line (codes "input Size"))
input_text (Rows at) = Some (with_number (codes "input Rows") at)
input_text (Cell at column) = Some (with_numbers (codes "input Cell") at column)
input_text (Scenario at) = Some (with_number (codes "input Scenario") at)
input_text (NoRow row rows) = Some (with_numbers (codes "input NoRow") row rows)
input_text ScenarioSize = Some (line (codes "input ScenarioSize"))
input_text Outside = Some (line (codes "input Outside"))
input_text StartBlocked = Some (line (codes "input StartBlocked"))
input_text GoalBlocked = Some (line (codes "input GoalBlocked"))
input_text Memory = None

-- why the text of sliding tiles is refused: the error's name and its numbers; out of memory has no
-- text
abbrev pub tiles_text : TilesError → Option (List ℕ)
tiles_text (tiles.Syntax at) = Some (with_number (codes "input Syntax") at)
tiles_text tiles.Size = Some (line (codes "input Size"))
tiles_text (tiles.Count seen wanted) = Some (with_numbers (codes "input Count") seen wanted)
tiles_text (tiles.Number at) = Some (with_number (codes "input Number") at)
tiles_text (tiles.Twice number) = Some (with_number (codes "input Twice") number)
tiles_text tiles.Memory = None

-- ---- the input: PDDL

-- the number of a file: the domain is named first, and the problem second
abbrev pub file_number : File → ℕ
file_number Domain = 1
file_number Problem = 2

-- what must stand in a token's place, in a word
abbrev pub want_word : Want → List ℕ
want_word wants.Paren = codes "Paren"
want_word wants.Close = codes "Close"
want_word wants.Word = codes "Word"
want_word wants.Name = codes "Name"
want_word wants.Variable = codes "Variable"
want_word wants.Section = codes "Section"
want_word wants.Part = codes "Part"
want_word wants.TypeName = codes "TypeName"
want_word wants.Number = codes "Number"
want_word wants.Group = codes "Group"
want_word wants.Once = codes "Once"
want_word wants.Missing = codes "Missing"

-- what of PDDL is left out, in a word
abbrev pub left_out_word : LeftOut → List ℕ
left_out_word left_out.Section = codes "Section"
left_out_word left_out.Part = codes "Part"
left_out_word left_out.Head = codes "Head"
left_out_word left_out.Either = codes "Either"
left_out_word left_out.Function = codes "Function"
left_out_word left_out.Metric = codes "Metric"

-- why the text of a domain or a problem is refused: the error's name, the number of the file, the
-- place in it, and what was wanted there or is left out; out of memory has no text
abbrev pub syntax_text : (file : ℕ) → SyntaxError → Option (List ℕ)
syntax_text file (syntax.Byte at) = Some (with_numbers (codes "input Byte") file at)
syntax_text file (syntax.Deep at) = Some (with_numbers (codes "input Deep") file at)
syntax_text file (syntax.LeftOut at what) =
    Some (with_numbers_and_word (codes "input LeftOut") file at (left_out_word what))
syntax_text file (syntax.Expected at want) =
    Some (with_numbers_and_word (codes "input Expected") file at (want_word want))
syntax_text file (syntax.Unclosed at) = Some (with_numbers (codes "input Unclosed") file at)
syntax_text file (syntax.Extra at) = Some (with_numbers (codes "input Extra") file at)
syntax_text file syntax.Memory = None

-- why a name, or what is said of costs, is refused, in a word
abbrev pub cause_word : Cause → List ℕ
cause_word causes.DomainName = codes "DomainName"
cause_word causes.Twice = codes "Twice"
cause_word causes.UnknownType = codes "UnknownType"
cause_word causes.TypeCycle = codes "TypeCycle"
cause_word causes.UnknownPredicate = codes "UnknownPredicate"
cause_word causes.Arity = codes "Arity"
cause_word causes.UnknownObject = codes "UnknownObject"
cause_word causes.WrongType = codes "WrongType"
cause_word causes.TooWide = codes "TooWide"
cause_word causes.NoFunction = codes "NoFunction"
cause_word causes.CostTwice = codes "CostTwice"
cause_word causes.CostRange = codes "CostRange"
cause_word causes.ZeroCost = codes "ZeroCost"

-- why names, costs or objects are refused: the cause, the number of the file and the place in it;
-- or how many objects there are
abbrev pub refusal_text : TypingRefusal → List ℕ
refusal_text (Named cause place) =
    with_numbers (spaced (codes "input") (cause_word cause)) (file_number place.file) place.at
refusal_text (TooManyObjects count) = with_number (codes "input TooManyObjects") count

-- grounding was stopped: no look at a row was left
abbrev pub stopped_grounding_report : List ℕ
stopped_grounding_report = line (codes "stopped grounding")

-- what is printed of a domain and a problem that give no task: why they are refused, or that
-- grounding was stopped; out of memory has no text
abbrev pub strips_text : StripsError → Option (List ℕ)
strips_text (strips.Refused refusal) = Some (refusal_text refusal)
strips_text (strips.TooManyAtoms count) = Some (with_number (codes "input TooManyAtoms") count)
strips_text strips.TooManyActions = Some (line (codes "input TooManyActions"))
strips_text strips.Stopped = Some stopped_grounding_report
strips_text strips.Memory = None

-- ---- the input: tables of a file

-- the first line of a file that isn't spelled as one that states tables must be
abbrev pub tables_syntax_text : (at : ℕ) → List ℕ
tables_syntax_text at = with_number (codes "input Tables") at

-- Why the tables of a file don't suit the task: the number of the line of a table or trap that is at
-- fault, among all lines of the file from 1 on; or the sum that an action lowers by more than its
-- cost, and the action.
abbrev pub tables_fault_text : TablesValue → TablesFault → List ℕ
tables_fault_text tables (tables_faults.Line list at) =
    with_number (codes "input Unsuited") (line_number tables list at)
tables_fault_text tables (tables_faults.Unpaid sum action) =
    with_numbers (codes "input Unpaid") sum action
