-- The case of each refusal, in the words of texts, plans and rows: all that is judged before the
-- fault is sound, and then comes the fault.
use Rattle.std.specs.Prelude.{◌≡◌, ◌≢◌, ℕ, ◌+◌, ◌<◌, ◌≤◌, ◌⊎◌, true, IsTrue, IsFalse, Some, Err, List, [], ◌∷◌, ◌++◌, length, All, Contains}
use Rattle.pb_model.specs.Space.{Space, Steps}
use Rattle.pb_model.specs.Weight.{IsWeight}
use Rattle.pb_model.specs.Plan.{Plan, Walk}
use Rattle.pb_model.specs.Store.{MayBeCut}
use Rattle.pb_model.specs.Certificate.{Line, Certificate, Ascends, HasLineWithin, cost_of, IsPlanIfAny, IsClosedLine}
use Rattle.pb_task.specs.declared.parts.TaskParts.{TaskParts}
use Rattle.pb_task.specs.declared.parts.TaskParts.TheVariants.{Strips}
use Rattle.pb_task.specs.declared.parts.StripsParts.{StripsParts}
use Rattle.pb_task.specs.Parts.{space_of, IsTask}
use Rattle.pb_task.specs.Kinds.{kind_of}
use Rattle.pb_task.specs.Groundings.{grounding_of}
use Rattle.pb_task.specs.Widths.{width_of}
use Rattle.pb_estimate.specs.declared.spelling.Spelling.{Spelling}
use Rattle.pb_tables.specs.declared.fault.TablesFault.{TablesFault}
use Rattle.pb_tables.specs.declared.fault.TablesFault.TheVariants as tables_faults
use Rattle.pb_tables.specs.Tables.{TablesValue}
use Rattle.pb_tables.specs.Suits.{tables_fault}
use Rattle.pb_table_lines.specs.Lines.{line_number}
use Rattle.pb_estimate.specs.Choices.{Pattern, Tables}
use Rattle.pb_estimate.specs.declared.spelling.Version.TheVariants.{One}
use Rattle.pb_estimate.specs.Estimates.{estimate_by, suits}
use Rattle.pb_lines.specs.Words.{line_feeds}
use Rattle.pb_check.specs.declared.fault.CertificateFault.{CertificateFault}
use Rattle.pb_check.specs.declared.fault.CertificateFault.TheVariants as faults
use Rattle.pb_check.specs.Reading.{first_line}
use Rattle.pb_check.specs.Spelling.{IsSpelled, HasWidthOf}
use Rattle.pb_check.specs.Judging.{checked}

-- ---- the text

-- the text of some certificate, of whatever task, begins with these bytes
abbrev pub MayBegin : List ℕ → Type 0
MayBegin bytes =
    (spelling : Spelling) × (certificate : Certificate) × (rest : List ℕ)
    × IsSpelled (bytes ++ rest) spelling certificate

-- each line has its line feed
abbrev pub AreWholeLines : List ℕ → Type 0
AreWholeLines bytes = (bytes ≡ []) ⊎ ((front : List ℕ) × (bytes ≡ front ++ 10 ∷ []))

-- The first line with which no certificate's text goes on: the text of some certificate begins with
-- the lines before it. None begins with these lines and this one, if it is there and has its line
-- feed. Nor are the bytes themselves a certificate's text.
pub record IsSyntaxFault (bytes : List ℕ) (line : ℕ) : Type 0 where
  pub before : List ℕ
  pub behind : List ℕ
  pub bytes_are : bytes ≡ before ++ behind
  pub whole : AreWholeLines before
  pub place : line ≡ 1 + line_feeds before
  pub begins : MayBegin before
  pub fault : (first rest : List ℕ) → behind ≡ first ++ 10 ∷ rest → line_feeds first ≡ 0
      → MayBegin (before ++ (first ++ 10 ∷ [])) → ⊥
  pub unspelled : (spelling : Spelling) (certificate : Certificate)
      → IsSpelled bytes spelling certificate → ⊥

-- the bytes spell a certificate that has this fault
abbrev pub IsSaid : (bytes : List ℕ) → (Fault : Spelling → Certificate → Type 0) → Type 0
IsSaid bytes Fault =
    (spelling : Spelling) × (certificate : Certificate) × IsSpelled bytes spelling certificate
    × Fault spelling certificate

-- ---- what is judged, one thing after another

-- it is for a task of this kind, with states of its width
abbrev pub HasFormOf : TaskParts → Spelling → Type 0
HasFormOf parts spelling =
    (spelling.kind ≡ kind_of parts) × HasWidthOf parts spelling.version spelling.width

-- .. and the grounding is the task's; before version 4 it is that all ground atoms have numbers
abbrev pub HasGroundingOf : TaskParts → Spelling → Type 0
HasGroundingOf parts spelling =
    HasFormOf parts spelling × (spelling.stated.grounding ≡ grounding_of parts)

-- .. and the choice of an estimate that it states suits the task
abbrev pub IsForTask : TaskParts → Spelling → Type 0
IsForTask parts spelling =
    HasGroundingOf parts spelling × (suits parts spelling.stated.choice ≡ true)

-- .. and its weight is one
abbrev pub HasWeight : TaskParts → Spelling → Certificate → Type 0
HasWeight parts spelling certificate = IsForTask parts spelling × IsWeight certificate.weight

-- .. and its plan is one of the task, or it has none
abbrev pub HasPlan : TaskParts → Spelling → Certificate → Type 0
HasPlan parts spelling certificate =
    HasWeight parts spelling certificate × IsPlanIfAny (space_of parts) certificate.plan

-- .. and the states of its rows ascend
abbrev pub HasOrder : TaskParts → Spelling → Certificate → Type 0
HasOrder parts spelling certificate =
    HasPlan parts spelling certificate × Ascends certificate.lines

-- .. and are states of the task
abbrev pub HasStates : TaskParts → Spelling → Certificate → Type 0
HasStates parts spelling certificate =
    HasOrder parts spelling certificate
    × All (λ row. IsTrue ((space_of parts).is_state row.state)) certificate.lines

-- .. and the start has a row whose g is 0
abbrev pub HasStart : TaskParts → Spelling → Certificate → Type 0
HasStart parts spelling certificate =
    HasStates parts spelling certificate
    × HasLineWithin certificate.lines (space_of parts).start 0

-- ---- the pattern

-- it states the number of a pattern, and the number is not from 1 to 12
abbrev pub IsPatternFault : Spelling → Type 0
IsPatternFault spelling =
    (number : ℕ) × (spelling.stated.choice ≡ Pattern number)
    × ((1 ≤ number) × (number ≤ 12) → ⊥)

-- ---- tables

-- it states these tables, and this is the first fault that keeps them from suiting the task
abbrev pub IsTablesFault : TaskParts → Spelling → TablesValue → TablesFault → Type 0
IsTablesFault parts spelling tables fault =
    (strips : StripsParts) × (parts ≡ Strips strips) × (spelling.stated.choice ≡ Tables tables)
    × (tables_fault strips tables ≡ Some fault)

-- the fault is in this line of the certificate, whose first line of tables is the fifth
abbrev pub IsTableLine : TaskParts → Spelling → (line : ℕ) → Type 0
IsTableLine parts spelling line =
    (tables : TablesValue) × (list : ℕ) × (at : ℕ) × (line ≡ 4 + line_number tables list at)
    × IsTablesFault parts spelling tables (tables_faults.Line list at)

-- ---- faults of the plan

-- the first action that is not applicable in the state to which those before it lead
pub record IsStepFault (space : Space) (plan : Plan) (i : ℕ) : Type 0 where
  pub before : List ℕ
  pub action : ℕ
  pub behind : List ℕ
  pub actions_are : plan.actions ≡ before ++ action ∷ behind
  pub place : i ≡ length before
  pub cost : ℕ
  pub at : ℕ
  pub walk : Walk space space.start before cost at
  pub fault : (to first : ℕ) → Steps space at action to first → ⊥

-- the actions lead to a state that is no goal
abbrev pub EndsElsewhere : Space → Plan → Type 0
EndsElsewhere space plan =
    (cost : ℕ) × (to : ℕ) × Walk space space.start plan.actions cost to
    × IsFalse (space.is_goal to)

-- the actions lead to a goal, at another cost than the text says
abbrev pub IsCostFault : Space → Plan → (said real : ℕ) → Type 0
IsCostFault space plan said real =
    (said ≡ plan.cost) × (goal : ℕ) × Walk space space.start plan.actions real goal
    × IsTrue (space.is_goal goal) × (said ≢ real)

-- the certificate has a plan with this fault; all is sound that is judged before the plan
abbrev pub IsPlanFault : TaskParts → (Fault : Space → Plan → Type 0) → Spelling → Certificate
    → Type 0
IsPlanFault parts Fault spelling certificate =
    HasWeight parts spelling certificate × (plan : Plan) × (certificate.plan ≡ Some plan)
    × Fault (space_of parts) plan

-- ---- faults of the rows

-- a row that has this fault, in this line: rows are counted from the line `first`
pub record HasFault (first : ℕ) (rows : List Line) (line : ℕ)
    (Fault : (before : List Line) → Line → Type 0) : Type 0 where
  pub before : List Line
  pub row : Line
  pub behind : List Line
  pub rows_are : rows ≡ before ++ row ∷ behind
  pub place : line ≡ first + length before
  pub fault : Fault before row

-- the certificate has a row in this line that has this fault
abbrev pub IsRowFault : (line : ℕ) → Spelling → Certificate
    → (Fault : (before : List Line) → Line → Type 0) → Type 0
IsRowFault line spelling certificate Fault =
    HasFault (first_line spelling certificate.plan) certificate.lines line Fault

-- the states ascend up to this row, and not with it
abbrev pub IsOutOfOrder : (before : List Line) → Line → Type 0
IsOutOfOrder before row = Ascends before × (Ascends (before ++ row ∷ []) → ⊥)

-- the state of this row is none of the space, and those before it are
abbrev pub IsNoState : Space → (before : List Line) → Line → Type 0
IsNoState space before row =
    All (λ other. IsTrue (space.is_state other.state)) before × IsFalse (space.is_state row.state)

-- a row that may be cut, at the weight and cost of the certificate and by the estimate that it
-- states
abbrev pub MayBeCutRow : TaskParts → Spelling → Certificate → Line → Type 0
MayBeCutRow parts spelling certificate row =
    MayBeCut certificate.weight (cost_of certificate.plan) row.g
    (estimate_by parts spelling.stated.choice row.state)

-- a row that is closed and may be, or is cut and may be
abbrev pub IsSoundRow : TaskParts → Spelling → Certificate → Line → Type 0
IsSoundRow parts spelling certificate row =
    (IsTrue row.is_closed → IsClosedLine (space_of parts) certificate.lines row)
    × (IsFalse row.is_closed → MayBeCutRow parts spelling certificate row)

-- the rows before this one are sound, and this one has the fault; all is sound that is judged
-- before
abbrev pub IsFirstUnsound : TaskParts → (line : ℕ)
    → (Fault : Spelling → Certificate → Line → Type 0) → Spelling → Certificate → Type 0
IsFirstUnsound parts line Fault spelling certificate =
    HasStart parts spelling certificate
    × IsRowFault line spelling certificate (λ before row.
    All (IsSoundRow parts spelling certificate) before × Fault spelling certificate row)

-- A closed row of no goal, and the first action whose successor has no row within its g plus the
-- cost of the step: this is so of the successor.
pub record IsSuccessorFault (space : Space) (rows : List Line) (action : ℕ)
    (Fault : (to most : ℕ) → Type 0) (row : Line) : Type 0 where
  pub closed : IsTrue row.is_closed
  pub no_goal : IsFalse (space.is_goal row.state)
  pub earlier : (other to cost : ℕ) → other < action → Steps space row.state other to cost
      → HasLineWithin rows to (row.g + cost)
  pub to : ℕ
  pub cost : ℕ
  pub step : Steps space row.state action to cost
  pub fault : Fault to (row.g + cost)

-- the state has no row
abbrev pub HasNoRow : List Line → (state : ℕ) → Type 0
HasNoRow rows state = (row : Line) → Contains rows row → row.state ≡ state → ⊥

-- the state has a row, with a g above this
abbrev pub HasRowAbove : List Line → (state most : ℕ) → Type 0
HasRowAbove rows state most =
    (row : Line) × Contains rows row × (row.state ≡ state) × (most < row.g)

-- ---- all

-- the case of a refusal
abbrev pub IsCaseOf : TaskParts → (bytes : List ℕ) → CertificateFault → Type 0
IsCaseOf parts bytes (faults.Syntax line) = IsSyntaxFault bytes line
IsCaseOf parts bytes faults.Kind =
    IsSaid bytes (λ spelling certificate. spelling.kind ≢ kind_of parts)
IsCaseOf parts bytes (faults.Width said wanted) =
    IsSaid bytes (λ spelling certificate. (spelling.kind ≡ kind_of parts)
    × (spelling.version ≢ One) × (said ≡ spelling.width) × (wanted ≡ width_of parts)
    × (said ≢ wanted))
IsCaseOf parts bytes faults.Grounding =
    IsSaid bytes (λ spelling certificate. HasFormOf parts spelling
    × (spelling.stated.grounding ≢ grounding_of parts))
IsCaseOf parts bytes faults.Pattern =
    IsSaid bytes (λ spelling certificate. HasGroundingOf parts spelling
    × IsPatternFault spelling)
IsCaseOf parts bytes (faults.Table line) =
    IsSaid bytes (λ spelling certificate. HasGroundingOf parts spelling
    × IsTableLine parts spelling line)
IsCaseOf parts bytes (faults.Unpaid sum action) =
    IsSaid bytes (λ spelling certificate. HasGroundingOf parts spelling
    × (tables : TablesValue)
    × IsTablesFault parts spelling tables (tables_faults.Unpaid sum action))
IsCaseOf parts bytes faults.Weight =
    IsSaid bytes (λ spelling certificate. IsForTask parts spelling
    × (IsWeight certificate.weight → ⊥))
IsCaseOf parts bytes (faults.PlanStep i) =
    IsSaid bytes (IsPlanFault parts (λ space plan. IsStepFault space plan i))
IsCaseOf parts bytes faults.NotGoal = IsSaid bytes (IsPlanFault parts EndsElsewhere)
IsCaseOf parts bytes (faults.Cost said real) =
    IsSaid bytes (IsPlanFault parts (λ space plan. IsCostFault space plan said real))
IsCaseOf parts bytes (faults.RowOrder line) =
    IsSaid bytes (λ spelling certificate. HasPlan parts spelling certificate
    × IsRowFault line spelling certificate IsOutOfOrder)
IsCaseOf parts bytes (faults.BadState line) =
    IsSaid bytes (λ spelling certificate. HasOrder parts spelling certificate
    × IsRowFault line spelling certificate (IsNoState (space_of parts)))
IsCaseOf parts bytes faults.NoStart =
    IsSaid bytes (λ spelling certificate. HasStates parts spelling certificate
    × (HasLineWithin certificate.lines (space_of parts).start 0 → ⊥))
IsCaseOf parts bytes (faults.GoalClosed line) =
    IsSaid bytes (IsFirstUnsound parts line (λ spelling certificate row. IsTrue row.is_closed
    × IsTrue ((space_of parts).is_goal row.state)))
IsCaseOf parts bytes (faults.Missing line action) =
    IsSaid bytes (IsFirstUnsound parts line (λ spelling certificate.
    IsSuccessorFault (space_of parts) certificate.lines action
    (λ to most. HasNoRow certificate.lines to)))
IsCaseOf parts bytes (faults.TooDear line action) =
    IsSaid bytes (IsFirstUnsound parts line (λ spelling certificate.
    IsSuccessorFault (space_of parts) certificate.lines action
    (λ to most. HasRowAbove certificate.lines to most)))
IsCaseOf parts bytes (faults.Low line) =
    IsSaid bytes (IsFirstUnsound parts line (λ spelling certificate row. IsFalse row.is_closed
    × (MayBeCutRow parts spelling certificate row → ⊥)))

-- A fault is reported only in its case.
abbrev pub RefusalsHaveTheirCase : Type 0
RefusalsHaveTheirCase =
    (parts : TaskParts) (bytes : List ℕ) (fault : CertificateFault) → IsTask parts
    → checked parts bytes ≡ Err fault → IsCaseOf parts bytes fault

-- In its case a fault is reported.
abbrev pub CasesAreRefused : Type 0
CasesAreRefused =
    (parts : TaskParts) (bytes : List ℕ) (fault : CertificateFault) → IsTask parts
    → IsCaseOf parts bytes fault → checked parts bytes ≡ Err fault
