-- Two states, the start and a goal, one step between them; a search that ends, and its certificate.
use Rattle.std.proofs.Common.{◌≡◌, ℕ, ◌+◌, ◌*◌, ◌≤◌, true, false, cond, ◌&&◌, ◌||◌, ◌==◌, IsTrue, IsFalse, List, [], ◌∷◌, Option, Some, None, Contains, refl, sym, ap, ◌∙◌, arith, true≢false}
use Rattle.std.specs.List.Sorted.{IsStrictlySortedBy}
use Rattle.std.proofs.lemmas.List.Elements.{All-from_recursion, Contains-get_or}
use Rattle.pb_model.specs.declared.row.Estimate.TheVariants.{Cost}
use Rattle.pb_model.specs.declared.row.Status.TheVariants.{Opened, Closed, Cut}
use Rattle.pb_model.specs.declared.row.Row.{Row}
use Rattle.pb_model.specs.Space.{Space, Steps}
use Rattle.pb_model.specs.Weight.{Weight}
use Rattle.pb_model.specs.Plan.{Plan, IsPlan}
use Rattle.pb_model.specs.Guide.{Guide}
use Rattle.pb_model.specs.Store.{Store, MayBeCut}
use Rattle.pb_model.specs.Work.{expand, take_goal, Comes, opening_store}
use Rattle.pb_model.specs.Certificate.{Line, Certificate, Ascends, IsValid, IsClosedLine, HasLineWithin}
use Rattle.pb_model.proofs.Tests.{by_cases}

abbrev space : Space
space = record { start = 0; is_state = λ s. (s == 0) || (s == 1); is_goal = λ s. s == 1; actions = 1; step = λ s a. cond ((s == 0) && (a == 0)) (Some (1, 1)) None }

abbrev guide : Guide
guide = record { estimate = λ s. Cost 0; home = λ s. 0 }

abbrev one : Weight
one = record { num = 1; den = 1 }

abbrev plan : Plan
plan = record { actions = 0 ∷ []; cost = 1 }

pub is_plan : IsPlan space plan
is_plan = (1, (1, 1, 0, refl, (refl, refl), refl), refl)

abbrev start_row : Row
start_row = record { g = 0; estimate = Cost 0; parent = None; action = 0; status = Opened }

abbrev goal_row : Row
goal_row = record { g = 1; estimate = Cost 0; parent = Some 0; action = 0; status = Opened }

-- the search: the start is expanded, and the goal is taken
pub comes : (new : Store) × Comes space guide (expand 0 ∷ take_goal 1 ∷ []) (opening_store space guide one) new × (new.incumbent ≡ Some 1)
    × (new.rows 0 0 ≡ Some (record start_row { status = Closed })) × (new.rows 0 1 ≡ Some (record goal_row { status = Cut })) × (new.rows 0 2 ≡ None)
comes = (_, (((start_row, refl, refl), refl), (((goal_row, refl, refl), refl), refl)), refl, refl, refl, refl)

abbrev lines : List Line
lines = record { state = 0; g = 0; is_closed = true } ∷ record { state = 1; g = 1; is_closed = false } ∷ []

ascends : Ascends lines
unfolding IsStrictlySortedBy
ascends = ((refl, tt), (tt, tt))

abbrev goal_line : Line
goal_line = record { state = 1; g = 1; is_closed = false }

abbrev start_line : Line
start_line = record { state = 0; g = 0; is_closed = true }

has_goal : Contains lines goal_line
has_goal = Contains-get_or lines 1 goal_line (omega arith)

has_start : Contains lines start_line
has_start = Contains-get_or lines 0 start_line (omega arith)

only_step : (s action to cost : ℕ) → Steps space s action to cost → HasLineWithin lines to (0 + cost)
only_step s action to cost step = by_cases ((s == 0) && (action == 0))
    (λ e. some (sym (ap (λ b. cond {A = Option (ℕ × ℕ)} b (Some (1, 1)) None) e) ∙ step))
    (λ e. none (sym (ap (λ b. cond {A = Option (ℕ × ℕ)} b (Some (1, 1)) None) e) ∙ step))
  where
    none : {A : Type 0} → ◌≡◌ {A = Option (ℕ × ℕ)} None (Some (to, cost)) → A
    none e = cc

    some : ◌≡◌ {A = Option (ℕ × ℕ)} (Some (1, 1)) (Some (to, cost)) → HasLineWithin lines to (0 + cost)
    some e =
        let pair : ◌≡◌ {A = ℕ × ℕ} (1, 1) (to, cost) = cc in
        (goal_line, has_goal, ap (λ (p : ℕ × ℕ). p.0) pair, let c : ◌≡◌ {A = ℕ} 1 cost = ap (λ (p : ℕ × ℕ). p.1) pair in omega (arith, c))

closed_start : IsClosedLine space lines start_line
closed_start = record { no_goal = refl; successors = λ action to cost step. only_step 0 action to cost step }

not_closed : {A : Type 0} → false ≡ true → A
not_closed e = absurd (true≢false (sym e))

abbrev certificate : Certificate
certificate = record { weight = one; plan = Some plan; lines = lines }

goal_cut : MayBeCut one (Some 1) 1 (Cost 0)
goal_cut = let h : 1 * 1 ≤ 1 * (1 + 0) = omega arith in h

pub valid : IsValid space guide.estimate certificate
valid = record {
  weight = record { positive = omega arith; at_least_one = omega arith; small = omega arith };
  plan = is_plan;
  ascending = ascends;
  states = All-from_recursion (λ (line : Line). IsTrue (space.is_state line.state)) lines (refl, (refl, tt));
  start = (start_line, has_start, refl, omega arith);
  closed = All-from_recursion (λ (line : Line). IsTrue line.is_closed → IsClosedLine space lines line) lines ((λ _. closed_start), ((λ e. not_closed e), tt));
  cut = All-from_recursion (λ (line : Line). IsFalse line.is_closed → MayBeCut one (Some 1) line.g (guide.estimate line.state)) lines ((λ e. not_closed (sym e)), ((λ _. goal_cut), tt));
}
