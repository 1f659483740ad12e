-- The first fault of a certificate that is spelled, in the stated order. Each row is judged by
-- itself against all rows.
use Rattle.std.specs.Prelude.{◌≡◌, ◌↔◌, ℕ, zero, suc, ◌+◌, ◌-◌, ◌*◌, ◌/◌, Bool, true, false, Option, None, Some, option_map, List, [], ◌∷◌, Result, Ok, Err, if◌then◌else◌, nat_lt, nat_le, ◌==◌, ◌&&◌, ◌<◌, ⊤}
use Rattle.pb_model.specs.declared.row.Estimate.{Estimate}
use Rattle.pb_model.specs.declared.row.Estimate.TheVariants.{Cost, Dead}
use Rattle.pb_model.specs.Space.{Space}
use Rattle.pb_model.specs.Weight.{Weight}
use Rattle.pb_model.specs.Plan.{Plan}
use Rattle.pb_model.specs.Certificate.{Line, cost_of}
use Rattle.pb_task.specs.declared.kind.Kind.{Kind}
use Rattle.pb_task.specs.declared.kind.Kind.TheVariants.{Grid, Tiles, Strips}
use Rattle.pb_task.specs.declared.grounding.Grounding.{Grounding}
use Rattle.pb_task.specs.declared.grounding.Grounding.TheVariants.{All, Reachable}
use Rattle.pb_task.specs.declared.parts.TaskParts.{TaskParts}
use Rattle.pb_task.specs.declared.parts.TaskParts.TheVariants as parts
use Rattle.pb_task.specs.Parts.{space_of}
use Rattle.pb_task.specs.Kinds.{kind_of}
use Rattle.pb_task.specs.Groundings.{grounding_of}
use Rattle.pb_task.specs.Widths.{width_of}
use Rattle.pb_estimate.specs.declared.spelling.Stated.{Stated}
use Rattle.pb_estimate.specs.declared.spelling.Version.{Version}
use Rattle.pb_estimate.specs.declared.spelling.Version.TheVariants.{One, Two, Three, Four}
use Rattle.pb_tables.specs.declared.fault.TablesFault.{TablesFault}
use Rattle.pb_tables.specs.declared.fault.TablesFault.TheVariants as tables_faults
use Rattle.pb_tables.specs.Tables.{TablesValue}
use Rattle.pb_tables.specs.Suits.{tables_fault}
use Rattle.pb_table_lines.specs.Lines.{line_number}
use Rattle.pb_estimate.specs.Choices.{Choice, Plain, Pattern, Tables}
use Rattle.pb_estimate.specs.Estimates.{estimate_by, suits}
use Rattle.pb_check.specs.declared.fault.CertificateFault.{CertificateFault}
use Rattle.pb_check.specs.declared.fault.CertificateFault.TheVariants as faults
use Rattle.pb_check.specs.declared.fault.Verdict.{Verdict}
use Rattle.pb_check.specs.declared.fault.Claim.TheVariants.{Bounded, Unsolvable}
use Rattle.pb_check.specs.Faults.{◌>>=◌}
use Rattle.pb_check.specs.Reading.{Text, suiting, text_of}

-- no fault, or this one
abbrev pub passes : Option CertificateFault → Result Bool CertificateFault
passes None = Ok true
passes (Some fault) = Err fault

-- the first of two faults
abbrev pub or_then : Option CertificateFault → Option CertificateFault → Option CertificateFault
or_then None other = other
or_then (Some fault) other = Some fault

abbrev pub unless : Bool → CertificateFault → Option CertificateFault
unless true fault = None
unless false fault = Some fault

abbrev pub same_kind : Kind → Kind → Bool
same_kind Grid Grid = true
same_kind Tiles Tiles = true
same_kind Strips Strips = true
same_kind Grid Tiles = false
same_kind Grid Strips = false
same_kind Tiles Grid = false
same_kind Tiles Strips = false
same_kind Strips Grid = false
same_kind Strips Tiles = false

-- the fault of the number of digits that a text states, for this task; version 1 states none
abbrev pub width_fault : TaskParts → Version → (width : ℕ) → Option CertificateFault
width_fault parts One width = None
width_fault parts Two width = unless (width == width_of parts) (faults.Width width (width_of parts))
width_fault parts Three width =
    unless (width == width_of parts) (faults.Width width (width_of parts))
width_fault parts Four width =
    unless (width == width_of parts) (faults.Width width (width_of parts))

abbrev pub same_grounding : Grounding → Grounding → Bool
same_grounding All All = true
same_grounding Reachable Reachable = true
same_grounding All Reachable = false
same_grounding Reachable All = false

-- the fault of the grounding that a text states, for this task: that it is another one than the
-- task's
abbrev pub grounding_fault : TaskParts → Stated → Option CertificateFault
grounding_fault parts stated =
    unless (same_grounding (grounding_of parts) stated.grounding) faults.Grounding

-- a fault of tables: one of their lines by its number in the certificate, whose first line of tables
-- is the fifth, or an action that costs less than it lowers a sum
abbrev pub table_fault : TablesValue → TablesFault → CertificateFault
table_fault tables (tables_faults.Line list line) = faults.Table (4 + line_number tables list line)
table_fault tables (tables_faults.Unpaid sum action) = faults.Unpaid sum action

-- the first fault that keeps tables from suiting this task; they suit no task but STRIPS
abbrev pub tables_fault_for : TaskParts → TablesValue → Option CertificateFault
tables_fault_for (parts.Grid grid) tables = Some faults.Kind
tables_fault_for (parts.Tiles tiles) tables = Some faults.Kind
tables_fault_for (parts.Strips strips) tables =
    option_map (table_fault tables) (tables_fault strips tables)

-- the fault of a choice of an estimate, for this task: that it doesn't suit the task
abbrev pub choice_fault : TaskParts → Choice → Option CertificateFault
choice_fault parts Plain = None
choice_fault parts (Pattern number) = unless (suits parts (Pattern number)) faults.Pattern
choice_fault parts (Tables tables) = tables_fault_for parts tables

-- the fault of the choice of an estimate that a text states
abbrev pub stated_fault : TaskParts → Stated → Option CertificateFault
stated_fault parts stated = choice_fault parts stated.choice

-- The choice of an estimate that a text states is no fault if and only if it suits the task, so that
-- its estimates are admissible. Such a choice is the one that an estimator is made by.
abbrev pub StatedChoicesSuit : Type 0
StatedChoicesSuit =
    (parts : TaskParts) (stated : Stated)
    → (stated_fault parts stated ≡ None ↔ suits parts stated.choice ≡ true)
    × (suits parts stated.choice ≡ true → suiting parts stated.choice ≡ stated.choice)

abbrev pub is_weight : Weight → Bool
is_weight weight = nat_le 1 weight.den && (nat_le weight.den weight.num && nat_le weight.num 1000)

-- ---- the plan

-- goes on after a step, if it is one
abbrev pub after_step : (done : ℕ) → ((next first : ℕ) → Result (ℕ × ℕ) CertificateFault)
    → Option (ℕ × ℕ) → Result (ℕ × ℕ) CertificateFault
after_step done rest None = Err (faults.PlanStep done)
after_step done rest (Some step) = rest step.0 step.1

-- where the actions lead, and at what cost, after so many steps of this cost; or the first step
-- that is none
unfoldable pub walk : Space → (from done cost : ℕ) → List ℕ → Result (ℕ × ℕ) CertificateFault
walk space from done cost [] = Ok (from, cost)
walk space from done cost (action ∷ actions) =
    after_step done (λ next first. walk space next (done + 1) (cost + first) actions)
    (space.step from action)

unfoldable pub plan_fault : Space → Plan → Result Bool CertificateFault
plan_fault space plan = do
  walked ← walk space space.start 0 0 plan.actions
  goal ← passes (unless (space.is_goal walked.0) faults.NotGoal)
  passes (unless (plan.cost == walked.1) (faults.Cost plan.cost walked.1))

abbrev pub plan_fault_if_any : Space → Option Plan → Result Bool CertificateFault
plan_fault_if_any space None = Ok true
plan_fault_if_any space (Some plan) = plan_fault space plan

-- ---- the rows

-- the first row whose state is not above that of the row before it
unfoldable pub order_fault : (line before : ℕ) → List Line → Option CertificateFault
order_fault line before [] = None
order_fault line before (row ∷ rows) =
    if nat_lt before row.state then order_fault (line + 1) row.state rows
    else Some (faults.RowOrder line)

abbrev pub rows_order_fault : (line : ℕ) → List Line → Option CertificateFault
rows_order_fault line [] = None
rows_order_fault line (row ∷ rows) = order_fault (line + 1) row.state rows

-- the first fault of the rows, by what is the fault of a row in its line
unfoldable pub first_fault_by : ((line : ℕ) → Line → Option CertificateFault) → (line : ℕ)
    → List Line → Option CertificateFault
first_fault_by fault line [] = None
first_fault_by fault line (row ∷ rows) =
    or_then (fault line row) (first_fault_by fault (line + 1) rows)

abbrev pub state_fault : Space → (line : ℕ) → Line → Option CertificateFault
state_fault space line row = unless (space.is_state row.state) (faults.BadState line)

-- the states of the rows rise, from above this one on
abbrev pub AreAbove : (before : ℕ) → List Line → Type 0
AreAbove before [] = ⊤
AreAbove before (row ∷ rows) = (before < row.state) × AreAbove row.state rows

abbrev pub Rise : List Line → Type 0
Rise [] = ⊤
Rise (row ∷ rows) = AreAbove row.state rows

-- the g of the first row of a state
unfoldable pub g_of : List Line → (state : ℕ) → Option ℕ
g_of [] state = None
g_of (row ∷ rows) state = if row.state == state then Some row.g else g_of rows state

abbrev pub is_zero : Option ℕ → Bool
is_zero None = false
is_zero (Some g) = g == 0

-- the fault of a step to a state that has this g, if it has a row
abbrev pub target_fault : (line action most : ℕ) → Option ℕ → Option CertificateFault
target_fault line action most None = Some (faults.Missing line action)
target_fault line action most (Some g) = unless (nat_le g most) (faults.TooDear line action)

abbrev pub step_fault : (rows : List Line) → (line g action : ℕ) → Option (ℕ × ℕ)
    → Option CertificateFault
step_fault rows line g action None = None
step_fault rows line g action (Some step) = target_fault line action (g + step.1) (g_of rows step.0)

-- the fault of the first action below a number that has one
unfoldable pub steps_fault : Space → (rows : List Line) → (line g state count : ℕ)
    → Option CertificateFault
steps_fault space rows line g state zero = None
steps_fault space rows line g state (suc action) =
    or_then (steps_fault space rows line g state action)
    (step_fault rows line g action (space.step state action))

abbrev pub may_be_cut : Weight → (best : Option ℕ) → (g : ℕ) → Estimate → Bool
may_be_cut weight best g Dead = true
may_be_cut weight None g (Cost h) = false
may_be_cut weight (Some best) g (Cost h) = nat_le (weight.den * best) (weight.num * (g + h))

-- the fault of a row, judged against all rows
unfoldable pub row_fault : Space → (estimate : ℕ → Estimate) → Weight → (best : Option ℕ)
    → (rows : List Line) → (line : ℕ) → Line → Option CertificateFault
row_fault space estimate weight best rows line row =
    if row.is_closed
    then (if space.is_goal row.state then Some (faults.GoalClosed line)
    else steps_fault space rows line row.g row.state space.actions)
    else unless (may_be_cut weight best row.g (estimate row.state)) (faults.Low line)

-- ---- all in order

-- the least number that is at least the cost divided by the weight
abbrev pub bound_of : Weight → (cost : ℕ) → ℕ
bound_of weight cost = (weight.den * cost + (weight.num - 1)) / weight.num

abbrev pub verdict_of : Weight → Option Plan → Verdict
verdict_of weight None = Unsolvable
verdict_of weight (Some plan) = Bounded plan.cost (bound_of weight plan.cost)

-- the verdict on what a text says, for this task: its cut rows are judged by the choice of an
-- estimate that the text states
unfoldable pub judged : TaskParts → Text → Result Verdict CertificateFault
judged parts text = do
  kinds ← passes (unless (same_kind (kind_of parts) text.spelling.kind) faults.Kind)
  widths ← passes (width_fault parts text.spelling.version text.spelling.width)
  groundings ← passes (grounding_fault parts text.spelling.stated)
  stated ← passes (stated_fault parts text.spelling.stated)
  weights ← passes (unless (is_weight text.certificate.weight) faults.Weight)
  plans ← plan_fault_if_any (space_of parts) text.certificate.plan
  orders ← passes (rows_order_fault text.first text.certificate.lines)
  states ← passes (first_fault_by (state_fault (space_of parts)) text.first text.certificate.lines)
  starts ← passes (unless (is_zero (g_of text.certificate.lines (space_of parts).start))
      faults.NoStart)
  rows ← passes (first_fault_by (row_fault (space_of parts)
      (estimate_by parts text.spelling.stated.choice) text.certificate.weight
      (cost_of text.certificate.plan) text.certificate.lines) text.first text.certificate.lines)
  Ok (verdict_of text.certificate.weight text.certificate.plan)

-- all that is judged before any row is looked at, in the same order
unfoldable pub judged_head : TaskParts → Text → Result Bool CertificateFault
judged_head parts text = do
  kinds ← passes (unless (same_kind (kind_of parts) text.spelling.kind) faults.Kind)
  widths ← passes (width_fault parts text.spelling.version text.spelling.width)
  groundings ← passes (grounding_fault parts text.spelling.stated)
  stated ← passes (stated_fault parts text.spelling.stated)
  weights ← passes (unless (is_weight text.certificate.weight) faults.Weight)
  plan_fault_if_any (space_of parts) text.certificate.plan

-- whether the start has a row whose g is 0
abbrev pub start_judged : TaskParts → List Line → Result Bool CertificateFault
start_judged parts rows =
    passes (unless (is_zero (g_of rows (space_of parts).start)) faults.NoStart)

-- all that is judged before the rows themselves are, in the same order
unfoldable pub judged_before : TaskParts → Text → Result Bool CertificateFault
judged_before parts text = do
  head ← judged_head parts text
  orders ← passes (rows_order_fault text.first text.certificate.lines)
  states ← passes (first_fault_by (state_fault (space_of parts)) text.first text.certificate.lines)
  start_judged parts text.certificate.lines

-- the verdict on the bytes as a certificate of this task, or their first fault
unfoldable pub checked : TaskParts → (bytes : List ℕ) → Result Verdict CertificateFault
checked parts bytes = text_of bytes >>= λ text. judged parts text
