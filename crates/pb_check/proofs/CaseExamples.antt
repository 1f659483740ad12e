-- Which fault comes first, for a few texts and for rows of a corridor of three cells.
use Rattle.std.proofs.Common.{◌≡◌, ℕ, ◌+◌, ◌-◌, true, false, if◌then◌else◌, nat_lt, ◌==◌, Option, None, Some, List, [], ◌∷◌, ◌++◌, codes, Ok, Err, refl, ap}
use Rattle.pb_model.specs.declared.row.Estimate.TheVariants.{Cost}
use Rattle.pb_model.specs.Space.{Space}
use Rattle.pb_model.specs.Plan.{Plan}
use Rattle.pb_model.specs.Certificate.{Line}
use Rattle.pb_task.specs.declared.parts.TaskParts.{TaskParts}
use Rattle.pb_task.specs.declared.parts.TaskParts.TheVariants as parts
use Rattle.pb_task.specs.declared.parts.GridParts.{GridParts}
use Rattle.pb_task.specs.declared.parts.StripsParts.{StripsParts}
use Rattle.pb_task.specs.declared.kind.Kind.TheVariants.{Grid, Strips}
use Rattle.pb_task.specs.declared.grounding.Grounding.TheVariants.{All, Reachable}
use Rattle.pb_estimate.specs.Choices.{Choice, Plain, Pattern}
use Rattle.pb_estimate.specs.declared.spelling.Stated.{Stated}
use Rattle.pb_estimate.specs.declared.spelling.Version.TheVariants.{One, Two, Three, Four}
use Rattle.pb_check.specs.declared.fault.CertificateFault.{CertificateFault}
use Rattle.pb_check.specs.declared.fault.CertificateFault.TheVariants as faults
use Rattle.pb_lines.specs.Words.{place_of, behind, number_after}
use Rattle.pb_check.specs.Reading.{version_at, version_in, kind_at, kind_in, width_at, width_line_at, width_in, grounding_at, grounding_in, estimate_at, estimate_in, number_at, stated_at, suiting, stated_choice, head_at, weight_at, weight_in, row_in, text_of}
use Rattle.pb_check.specs.Judging.{unless, width_fault, same_grounding, grounding_fault, stated_fault, walk, plan_fault, order_fault, rows_order_fault, first_fault_by, state_fault, g_of, steps_fault, row_fault, checked}
use Rattle.pb_check.specs.Cases.{IsStepFault, EndsElsewhere, IsCostFault}

-- ---- texts

no_text : (parts : TaskParts) → checked parts [] ≡ Err (faults.Syntax 1)
unfolding checked text_of head_at version_at place_of
no_text parts = refl

version_without_end : (parts : TaskParts)
    → checked parts (codes "pbnf-certificate 1") ≡ Err (faults.Syntax 1)
unfolding checked text_of head_at version_at place_of
version_without_end parts = refl

no_kind : (parts : TaskParts)
    → checked parts (codes "pbnf-certificate 1" ++ 10 ∷ []) ≡ Err (faults.Syntax 2)
unfolding checked text_of head_at version_at version_in kind_at place_of behind
no_kind parts = refl

another_kind : (parts : TaskParts)
    → checked parts (codes "pbnf-certificate 1" ++ 10 ∷ codes "kind rook" ++ 10 ∷ codes "weight")
    ≡ Err (faults.Syntax 2)
unfolding checked text_of head_at version_at version_in kind_at kind_in place_of behind
another_kind parts = refl

fifth_version : (parts : TaskParts)
    → checked parts (codes "pbnf-certificate 5" ++ 10 ∷ codes "kind grid" ++ 10 ∷ [])
    ≡ Err (faults.Syntax 1)
unfolding checked text_of head_at version_at version_in place_of behind
fifth_version parts = refl

-- version 2 says how many digits a state has, before the weight
no_width : (parts : TaskParts)
    → checked parts (codes "pbnf-certificate 2" ++ 10 ∷ codes "kind grid" ++ 10 ∷ codes "weight 1 1"
    ++ 10 ∷ [])
    ≡ Err (faults.Syntax 3)
unfolding checked text_of head_at version_at version_in kind_at kind_in width_at width_line_at width_in place_of behind
no_width parts = refl

width_of_nought : (parts : TaskParts)
    → checked parts (codes "pbnf-certificate 2" ++ 10 ∷ codes "kind grid" ++ 10 ∷ codes "width 0"
    ++ 10 ∷ [])
    ≡ Err (faults.Syntax 3)
unfolding checked text_of head_at version_at version_in kind_at kind_in width_at width_line_at width_in place_of behind number_after
width_of_nought parts = refl

width_above_all : (parts : TaskParts)
    → checked parts (codes "pbnf-certificate 2" ++ 10 ∷ codes "kind grid" ++ 10 ∷ codes "width 257"
    ++ 10 ∷ [])
    ≡ Err (faults.Syntax 3)
unfolding checked text_of head_at version_at version_in kind_at kind_in width_at width_line_at width_in place_of behind number_after
width_above_all parts = refl

-- a text of version 1 says nothing of the digits
width_in_version_1 : (parts : TaskParts)
    → checked parts (codes "pbnf-certificate 1" ++ 10 ∷ codes "kind grid" ++ 10 ∷ codes "width 64"
    ++ 10 ∷ [])
    ≡ Err (faults.Syntax 3)
unfolding checked text_of head_at version_at version_in kind_at kind_in width_at stated_at weight_at weight_in place_of behind
width_in_version_1 parts = refl

-- version 3 says the digits too, and then the number of a pattern
third_version : (parts : TaskParts)
    → checked parts (codes "pbnf-certificate 3" ++ 10 ∷ codes "kind grid" ++ 10 ∷ [])
    ≡ Err (faults.Syntax 3)
unfolding checked text_of head_at version_at version_in kind_at kind_in width_at width_line_at place_of behind
third_version parts = refl

width_of_nought_in_version_3 : (parts : TaskParts)
    → checked parts (codes "pbnf-certificate 3" ++ 10 ∷ codes "kind grid" ++ 10 ∷ codes "width 0"
    ++ 10 ∷ [])
    ≡ Err (faults.Syntax 3)
unfolding checked text_of head_at version_at version_in kind_at kind_in width_at width_line_at width_in place_of behind number_after
width_of_nought_in_version_3 parts = refl

no_pattern : (parts : TaskParts)
    → checked parts (codes "pbnf-certificate 3" ++ 10 ∷ codes "kind grid" ++ 10 ∷ codes "width 6"
    ++ 10 ∷ codes "weight 1 1" ++ 10 ∷ [])
    ≡ Err (faults.Syntax 4)
unfolding checked text_of head_at version_at version_in kind_at kind_in width_at width_line_at width_in stated_at number_at place_of behind number_after
no_pattern parts = refl

-- the head of a certificate of a map, of a search by the pattern of number 3
abbrev pub head_3 : List ℕ
head_3 =
    codes "pbnf-certificate 3" ++ 10 ∷ codes "kind grid" ++ 10 ∷ codes "width 6"
    ++ 10 ∷ codes "pattern 3" ++ 10 ∷ []

third_head : head_at (head_3 ++ codes "weight 1 1" ++ 10 ∷ [])
    ≡ Ok (
      record { kind = Grid; version = Three; width = 6; stated = record { grounding = All; choice = Pattern 3 } },
      codes "weight 1 1" ++ 10 ∷ [],
    )
unfolding head_at version_at version_in kind_at kind_in width_at width_line_at width_in stated_at number_at place_of behind number_after
third_head = refl

stated_pattern : (parts : TaskParts) → stated_choice parts head_3 ≡ Pattern 3
unfolding head_at version_at version_in kind_at kind_in width_at width_line_at width_in stated_at number_at place_of behind number_after
stated_pattern parts = refl

-- the line of the weight is line 5
no_weight : (parts : TaskParts) → checked parts head_3 ≡ Err (faults.Syntax 5)
unfolding checked text_of head_at version_at version_in kind_at kind_in width_at width_line_at width_in stated_at number_at weight_at place_of behind number_after
no_weight parts = refl

-- version 4 is for STRIPS alone
fourth_version : (parts : TaskParts)
    → checked parts (codes "pbnf-certificate 4" ++ 10 ∷ codes "kind grid" ++ 10 ∷ codes "width 6"
    ++ 10 ∷ [])
    ≡ Err (faults.Syntax 2)
unfolding checked text_of head_at version_at version_in kind_at kind_in place_of behind
fourth_version parts = refl

-- version 4 says the digits, which ground atoms and actions have numbers, and the choice of an
-- estimate
abbrev pub to_width_4 : List ℕ
to_width_4 =
    codes "pbnf-certificate 4" ++ 10 ∷ codes "kind strips" ++ 10 ∷ codes "width 6" ++ 10 ∷ []

no_width_in_version_4 : (parts : TaskParts)
    → checked parts (codes "pbnf-certificate 4" ++ 10 ∷ codes "kind strips" ++ 10 ∷ [])
    ≡ Err (faults.Syntax 3)
unfolding checked text_of head_at version_at version_in kind_at kind_in width_at width_line_at place_of behind
no_width_in_version_4 parts = refl

no_grounding : (parts : TaskParts)
    → checked parts (to_width_4 ++ codes "estimate plain" ++ 10 ∷ []) ≡ Err (faults.Syntax 4)
unfolding checked text_of head_at version_at version_in kind_at kind_in width_at width_line_at width_in stated_at grounding_at grounding_in place_of behind number_after
no_grounding parts = refl

no_estimate : (parts : TaskParts)
    → checked parts (to_width_4 ++ codes "grounding all" ++ 10 ∷ codes "pattern 3" ++ 10 ∷ [])
    ≡ Err (faults.Syntax 5)
unfolding checked text_of head_at version_at version_in kind_at kind_in width_at width_line_at width_in stated_at grounding_at grounding_in estimate_at estimate_in place_of behind number_after
no_estimate parts = refl

-- the head of a certificate of a STRIPS task in which what is reached has numbers, of a search by
-- the pattern of number 3
abbrev pub head_4 : List ℕ
head_4 =
    to_width_4 ++ codes "grounding reachable" ++ 10 ∷ codes "estimate pattern 3" ++ 10 ∷ []

fourth_head : head_at (head_4 ++ codes "weight 1 1" ++ 10 ∷ [])
    ≡ Ok (
      record {
        kind = Strips;
        version = Four;
        width = 6;
        stated = record { grounding = Reachable; choice = Pattern 3 };
      },
      codes "weight 1 1" ++ 10 ∷ [],
    )
unfolding head_at version_at version_in kind_at kind_in width_at width_line_at width_in stated_at grounding_at grounding_in estimate_at estimate_in place_of behind number_after
fourth_head = refl

plain_head : head_at (to_width_4 ++ codes "grounding all" ++ 10 ∷ codes "estimate plain" ++ 10 ∷ [])
    ≡ Ok (
      record {
        kind = Strips;
        version = Four;
        width = 6;
        stated = record { grounding = All; choice = Plain };
      },
      [],
    )
unfolding head_at version_at version_in kind_at kind_in width_at width_line_at width_in stated_at grounding_at grounding_in estimate_at estimate_in place_of behind number_after
plain_head = refl

stated_estimate : (parts : TaskParts) → stated_choice parts head_4 ≡ Pattern 3
unfolding head_at version_at version_in kind_at kind_in width_at width_line_at width_in stated_at grounding_at grounding_in estimate_at estimate_in place_of behind number_after
stated_estimate parts = refl

-- the line of the weight is line 6
no_weight_in_version_4 : (parts : TaskParts) → checked parts head_4 ≡ Err (faults.Syntax 6)
unfolding checked text_of head_at version_at version_in kind_at kind_in width_at width_line_at width_in stated_at grounding_at grounding_in estimate_at estimate_in weight_at place_of behind number_after
no_weight_in_version_4 parts = refl

-- ---- the grounding

-- a map has no ground atoms: nothing is left out
reachable_on_a_grid : (grid : GridParts)
    → grounding_fault (parts.Grid grid) (record { grounding = Reachable; choice = Plain })
    ≡ Some faults.Grounding
reachable_on_a_grid grid = refl

all_on_a_grid : (grid : GridParts)
    → grounding_fault (parts.Grid grid) (record { grounding = All; choice = Plain }) ≡ None
all_on_a_grid grid = refl

-- so a certificate of version 1, 2 or 3 is refused where only what is reached has numbers
all_for_reachable : (strips : StripsParts) → strips.grounding ≡ Reachable
    → grounding_fault (parts.Strips strips) (record { grounding = All; choice = Plain })
    ≡ Some faults.Grounding
all_for_reachable strips is = ap (λ g. unless (same_grounding g All) faults.Grounding) is

-- ---- the number of a pattern

abbrev pub by_choice : Choice → Stated
by_choice choice = record { grounding = All; choice = choice }

first_pattern : (parts : TaskParts) → stated_fault parts (by_choice (Pattern 1)) ≡ None
first_pattern parts = refl

last_pattern : (parts : TaskParts) → stated_fault parts (by_choice (Pattern 12)) ≡ None
last_pattern parts = refl

pattern_of_nought : (parts : TaskParts)
    → stated_fault parts (by_choice (Pattern 0)) ≡ Some faults.Pattern
pattern_of_nought parts = refl

pattern_above_all : (parts : TaskParts)
    → stated_fault parts (by_choice (Pattern 13)) ≡ Some faults.Pattern
pattern_above_all parts = refl

great_pattern : (parts : TaskParts)
    → stated_fault parts (by_choice (Pattern 4611686018427387904)) ≡ Some faults.Pattern
great_pattern parts = refl

-- an estimator is made by no such number
unsuited : (parts : TaskParts) → suiting parts (Pattern 13) ≡ Plain
unsuited parts = refl

-- ---- the digits of a state

as_the_task : (parts : TaskParts) (width : ℕ) → width_fault parts One width ≡ None
as_the_task parts width = refl

six_on_a_grid : (grid : GridParts)
    → width_fault (parts.Grid grid) Two 7 ≡ Some (faults.Width 7 6)
six_on_a_grid grid = refl

as_in_version_2 : (grid : GridParts)
    → width_fault (parts.Grid grid) Three 7 ≡ Some (faults.Width 7 6)
as_in_version_2 grid = refl

-- a state has no fewer digits than the text says
no_fewer_digits : row_in 7 9 (codes "000802 3 closed") ≡ Err (faults.Syntax 9)
unfolding row_in place_of
no_fewer_digits = refl

-- ---- a corridor: action 0 leads to the next cell, and action 1 to the one before; the goal is the
-- last cell

right : ℕ → Option (ℕ × ℕ)
right cell = if nat_lt cell 2 then Some (cell + 1, 1) else None

left : ℕ → Option (ℕ × ℕ)
left cell = if nat_lt 0 cell then Some (cell - 1, 1) else None

step : (cell action : ℕ) → Option (ℕ × ℕ)
step cell action =
    if action == 0 then right cell else (if action == 1 then left cell else None)

corridor : Space
corridor = record {
  start = 0;
  is_state = λ cell. nat_lt cell 3;
  is_goal = λ cell. cell == 2;
  actions = 2;
  step = step;
}

plan : (actions : List ℕ) → (cost : ℕ) → Plan
plan actions cost = record { actions = actions; cost = cost }

closed : (cell g : ℕ) → Line
closed cell g = record { state = cell; g = g; is_closed = true }

cut : (cell g : ℕ) → Line
cut cell g = record { state = cell; g = g; is_closed = false }

-- ---- the plan

third_step_is_none : plan_fault corridor (plan (0 ∷ 0 ∷ 0 ∷ []) 9) ≡ Err (faults.PlanStep 2)
unfolding plan_fault walk plan corridor step right
third_step_is_none = refl

third_step : IsStepFault corridor (plan (0 ∷ 0 ∷ 0 ∷ []) 9) 2
unfolding plan corridor step right
third_step = record {
  before = 0 ∷ 0 ∷ [];
  action = 0;
  behind = [];
  actions_are = refl;
  place = refl;
  cost = 2;
  at = 2;
  walk = (1, 1, 1, refl, (2, 1, 0, refl, (refl, refl), refl), refl);
  fault = λ to first step. cc;
}

ends_before_the_goal : plan_fault corridor (plan (0 ∷ []) 9) ≡ Err faults.NotGoal
unfolding plan_fault walk plan corridor step right
ends_before_the_goal = refl

goal_before_cost : EndsElsewhere corridor (plan (0 ∷ []) 9)
unfolding plan corridor step right
goal_before_cost = (1, 1, (1, 1, 0, refl, (refl, refl), refl), refl)

costs_two : plan_fault corridor (plan (0 ∷ 0 ∷ []) 9) ≡ Err (faults.Cost 9 2)
unfolding plan_fault walk plan corridor step right
costs_two = refl

other_cost : IsCostFault corridor (plan (0 ∷ 0 ∷ []) 9) 9 2
unfolding plan corridor step right
other_cost = (refl, 2, (1, 1, 1, refl, (2, 1, 0, refl, (refl, refl), refl), refl), refl, λ same. cc)

-- ---- the rows, of which the first is line 5

-- the order comes before the states
order_first : rows_order_fault 5 (closed 7 0 ∷ cut 3 1 ∷ []) ≡ Some (faults.RowOrder 6)
unfolding order_fault closed cut
order_first = refl

no_state : first_fault_by (state_fault corridor) 5 (closed 0 0 ∷ cut 3 1 ∷ cut 4 1 ∷ [])
    ≡ Some (faults.BadState 6)
unfolding first_fault_by corridor closed cut
no_state = refl

abbrev judged_rows : (best : ℕ) → List Line → Option CertificateFault
judged_rows best rows =
    first_fault_by (row_fault corridor (λ cell. Cost (2 - cell)) (record { num = 1; den = 1 })
    (Some best) rows) 5 rows

sound : judged_rows 2 (closed 0 0 ∷ closed 1 1 ∷ cut 2 2 ∷ []) ≡ None
unfolding first_fault_by row_fault steps_fault g_of closed corridor step right left cut
sound = refl

-- a row's own fault comes before those of later rows
missing_first : judged_rows 2 (closed 0 0 ∷ closed 2 2 ∷ []) ≡ Some (faults.Missing 5 0)
unfolding first_fault_by row_fault steps_fault g_of closed corridor step right
missing_first = refl

goal_closed : judged_rows 2 (closed 0 0 ∷ closed 1 1 ∷ closed 2 2 ∷ [])
    ≡ Some (faults.GoalClosed 7)
unfolding first_fault_by row_fault steps_fault g_of closed corridor step right left
goal_closed = refl

-- a row is of both directions: the first action whose successor is at fault
later_action : judged_rows 2 (closed 1 0 ∷ cut 2 1 ∷ []) ≡ Some (faults.Missing 5 1)
unfolding first_fault_by row_fault steps_fault g_of closed corridor step right cut left
later_action = refl

too_dear : judged_rows 2 (closed 0 0 ∷ cut 1 5 ∷ []) ≡ Some (faults.TooDear 5 0)
unfolding first_fault_by row_fault steps_fault g_of closed corridor step right cut
too_dear = refl

low : judged_rows 3 (cut 0 0 ∷ []) ≡ Some (faults.Low 5)
unfolding first_fault_by row_fault steps_fault g_of cut
low = refl
