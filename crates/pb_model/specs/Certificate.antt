-- Certificates of optimality: a plan, or the claim that there is none, and lines that show that no
-- plan is cheaper.
use Rattle.std.specs.Prelude.{◌≡◌, ℕ, ◌+◌, ◌≤◌, Bool, true, false, IsTrue, IsFalse, Option, None, Some, List, map, All, Contains, ⊤}
use Rattle.std.specs.List.Sorted.{IsStrictlySortedBy}
use Rattle.std.specs.Ordering.{nat_cmp}
use Rattle.pb_model.specs.declared.row.Estimate.{Estimate}
use Rattle.pb_model.specs.declared.row.Status.{Status}
use Rattle.pb_model.specs.declared.row.Status.TheVariants.{Opened, Closed, Cut}
use Rattle.pb_model.specs.declared.row.Row.{Row}
use Rattle.pb_model.specs.Space.{Space, Steps}
use Rattle.pb_model.specs.Weight.{Weight, IsWeight}
use Rattle.pb_model.specs.Plan.{Plan, IsPlan, HasNoPlan, NoneCheaper}
use Rattle.pb_model.specs.Guide.{Guide}
use Rattle.pb_model.specs.Store.{Rows, MayBeCut}

-- a state that the search met, with its g, and whether the state was Closed or Cut
pub record Line : Type 0 where
  pub state : ℕ
  pub g : ℕ
  pub is_closed : Bool

pub record Certificate : Type 0 where
  pub weight : Weight
  pub plan : Option Plan
  pub lines : List Line

-- the states of the lines ascend
abbrev pub Ascends : List Line → Type 0
Ascends lines = IsStrictlySortedBy nat_cmp (map (λ line. line.state) lines)

-- the state has a line whose g is at most this
abbrev pub HasLineWithin : List Line → (state most : ℕ) → Type 0
HasLineWithin lines state most =
    (line : Line) × Contains lines line × (line.state ≡ state) × (line.g ≤ most)

-- the cost of the plan, if there is one
abbrev pub cost_of : Option Plan → Option ℕ
cost_of None = None
cost_of (Some plan) = Some plan.cost

abbrev pub IsPlanIfAny : Space → Option Plan → Type 0
IsPlanIfAny space None = ⊤
IsPlanIfAny space (Some plan) = IsPlan space plan

-- a closed line is of no goal, and each successor has a line whose g is at most this line's g plus
-- the cost of the step
pub record IsClosedLine (space : Space) (lines : List Line) (line : Line) : Type 0 where
  pub no_goal : IsFalse (space.is_goal line.state)
  pub successors : (action to cost : ℕ) → Steps space line.state action to cost
      → HasLineWithin lines to (line.g + cost)

-- Each condition speaks of the space, the estimates and the lines alone, and can be tested without
-- the search. The kind of task that a certificate's text states is judged with the text.
pub record IsValid (space : Space) (estimate : ℕ → Estimate) (certificate : Certificate) : Type 0
  where
    pub weight : IsWeight certificate.weight
    pub plan : IsPlanIfAny space certificate.plan
    pub ascending : Ascends certificate.lines
    pub states : All (λ line. IsTrue (space.is_state line.state)) certificate.lines
    pub start : HasLineWithin certificate.lines space.start 0
    pub closed : All (λ line. IsTrue line.is_closed → IsClosedLine space certificate.lines line)
        certificate.lines
    pub cut : All (λ line. IsFalse line.is_closed
        → MayBeCut certificate.weight (cost_of certificate.plan) line.g (estimate line.state))
        certificate.lines

-- what a certificate claims: its plan is a plan, and no plan costs less than the plan's cost
-- divided by the weight; or there is no plan
abbrev pub ClaimHolds : Space → Weight → Option Plan → Type 0
ClaimHolds space weight None = HasNoPlan space
ClaimHolds space weight (Some plan) = IsPlan space plan × NoneCheaper space weight plan.cost

-- ---- the certificate of a quiet store

abbrev pub is_closed : Status → Bool
is_closed Opened = false
is_closed Closed = true
is_closed Cut = false

abbrev pub line_of : (state : ℕ) → Row → Line
line_of state row = record { state = state; g = row.g; is_closed = is_closed row.status }

-- the lines are those of all rows, in ascending order of the states
pub record AreLinesOf (guide : Guide) (rows : Rows) (lines : List Line) : Type 0 where
  pub ascending : Ascends lines
  pub sound : All (λ line. (row : Row) × (rows (guide.home line.state) line.state ≡ Some row)
      × (line ≡ line_of line.state row)) lines
  pub complete : (state : ℕ) (row : Row) → rows (guide.home state) state ≡ Some row
      → Contains lines (line_of state row)

-- the plan costs at most the incumbent, or there is neither
abbrev pub IsBackedBy : (incumbent : Option ℕ) → Option Plan → Type 0
IsBackedBy None None = ⊤
IsBackedBy (Some incumbent) (Some plan) = plan.cost ≤ incumbent
IsBackedBy None (Some plan) = ⊥
IsBackedBy (Some incumbent) None = ⊥
