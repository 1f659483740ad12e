-- Which fault comes first in texts that state tables, for a task of one action. At cost 3 the
-- action leads from the start, whose state is 1, to the goal, whose state is 2.
use Rattle.std.proofs.Common.{◌≡◌, ℕ, List, [], ◌∷◌, ◌++◌, codes, Ok, Err, refl}
use Rattle.pb_model.specs.Texts.{lines}
use Rattle.pb_task.specs.declared.parts.TaskParts.{TaskParts}
use Rattle.pb_task.specs.declared.parts.TaskParts.TheVariants.{Strips}
use Rattle.pb_lines.specs.Words.{place_of, behind, number_after}
use Rattle.pb_tables.specs.Examples.{example, one_table}
use Rattle.pb_tables.specs.Suits.{first_order_fault, first_step_fault, first_unpaid}
use Rattle.pb_tables.specs.Estimate.{tables_estimate}
use Rattle.pb_table_lines.specs.Words.{hex_after as image_after}
use Rattle.pb_table_lines.specs.Reading.{counts_in, list_in, value_in, values_in, image_in, images_at, list_at, lists_at, tables_at}
use Rattle.pb_table_lines.specs.Examples.{first_lines, one_table_lines}
use Rattle.pb_estimate.specs.Choices.{Plain, Tables}
use Rattle.pb_check.specs.declared.fault.CertificateFault.TheVariants as faults
use Rattle.pb_check.specs.declared.fault.Claim.TheVariants.{Bounded}
use Rattle.pb_check.specs.Words.{hex_after}
use Rattle.pb_check.specs.Reading.{version_at, version_in, kind_at, kind_in, width_at, width_line_at, width_in, grounding_at, grounding_in, estimate_at, number_at, stated_at, stated_choice, head_at, weight_at, weight_in, actions_at, steps_at, plan_at, closed_in, row_in, row_at, rows_at, fixed_at, end_at, body_at, text_of}
use Rattle.pb_check.specs.Judging.{walk, plan_fault, order_fault, first_fault_by, g_of, steps_fault, row_fault, judged, checked}

abbrev task : TaskParts
task = Strips example

-- a certificate with the plan of that action, which states these tables and has these rows
abbrev certificate : (tables rows : List (List ℕ)) → List ℕ
certificate tables rows =
    lines (codes "pbnf-certificate 4" ∷ codes "kind strips" ∷ codes "width 1"
    ∷ codes "grounding all" ∷ (tables ++ codes "weight 1 1" ∷ codes "plan 1" ∷ codes "0"
    ∷ codes "cost 3" ∷ (rows ++ codes "end" ∷ [])))

abbrev two_rows : List (List ℕ)
two_rows = codes "rows 2" ∷ codes "1 0 closed" ∷ codes "2 3 cut" ∷ []

-- the table's first line is the certificate's sixth
abbrev table_of : (images : List (List ℕ)) → List (List ℕ)
table_of images = first_lines ++ images

accepted : checked task (certificate one_table_lines two_rows) ≡ Ok (Bounded 3 3)
unfolding checked text_of head_at version_at version_in kind_at kind_in width_at width_line_at width_in stated_at grounding_at grounding_in estimate_at number_at weight_at weight_in plan_at steps_at actions_at body_at rows_at row_at row_in closed_in end_at fixed_at place_of behind number_after hex_after image_after counts_in list_in value_in values_in image_in images_at list_at lists_at tables_at judged walk plan_fault order_fault first_fault_by g_of steps_fault row_fault first_order_fault first_step_fault first_unpaid tables_estimate
accepted = refl

-- the start's value is 3, so that its row may be cut
start_is_cut : checked task (certificate one_table_lines (codes "rows 1" ∷ codes "1 0 cut" ∷ []))
    ≡ Ok (Bounded 3 3)
unfolding checked text_of head_at version_at version_in kind_at kind_in width_at width_line_at width_in stated_at grounding_at grounding_in estimate_at number_at weight_at weight_in plan_at steps_at actions_at body_at rows_at row_at row_in closed_in end_at fixed_at place_of behind number_after hex_after image_after counts_in list_in value_in values_in image_in images_at list_at lists_at tables_at judged walk plan_fault order_fault first_fault_by g_of steps_fault row_fault first_order_fault first_step_fault first_unpaid tables_estimate
start_is_cut = refl

-- the action costs less than it lowers the table's value
unpaid : checked task (certificate (table_of (codes "1 4" ∷ codes "2 0" ∷ [])) two_rows)
    ≡ Err (faults.Unpaid 0 0)
unfolding checked text_of head_at version_at version_in kind_at kind_in width_at width_line_at width_in stated_at grounding_at grounding_in estimate_at number_at weight_at weight_in plan_at steps_at actions_at body_at rows_at row_at row_in closed_in end_at fixed_at place_of behind number_after hex_after image_after counts_in list_in value_in values_in image_in images_at list_at lists_at tables_at judged walk plan_fault order_fault first_fault_by g_of steps_fault row_fault first_order_fault first_step_fault first_unpaid tables_estimate
unpaid = refl

-- the goal has a value, in line 8
goal_with_value : checked task (certificate (table_of (codes "1 3" ∷ codes "2 1" ∷ [])) two_rows)
    ≡ Err (faults.Table 8)
unfolding checked text_of head_at version_at version_in kind_at kind_in width_at width_line_at width_in stated_at grounding_at grounding_in estimate_at number_at weight_at weight_in plan_at steps_at actions_at body_at rows_at row_at row_in closed_in end_at fixed_at place_of behind number_after hex_after image_after counts_in list_in value_in values_in image_in images_at list_at lists_at tables_at judged walk plan_fault order_fault first_fault_by g_of steps_fault row_fault first_order_fault first_step_fault first_unpaid tables_estimate
goal_with_value = refl

-- the image to which the action leads isn't listed: it leads there from line 7
leads_out : checked task
    (certificate (codes "estimate tables 1 1 0" ∷ codes "table 3 1" ∷ codes "1 3" ∷ []) two_rows)
    ≡ Err (faults.Table 7)
unfolding checked text_of head_at version_at version_in kind_at kind_in width_at width_line_at width_in stated_at grounding_at grounding_in estimate_at number_at weight_at weight_in plan_at steps_at actions_at body_at rows_at row_at row_in closed_in end_at fixed_at place_of behind number_after hex_after image_after counts_in list_in value_in values_in image_in images_at list_at lists_at tables_at judged walk plan_fault order_fault first_fault_by g_of steps_fault row_fault first_order_fault first_step_fault first_unpaid tables_estimate
leads_out = refl

-- an estimator is made by the tables if they suit
chosen : stated_choice task (certificate one_table_lines two_rows)
    ≡ Tables (one_table (3 ∷ 0 ∷ []))
unfolding head_at version_at version_in kind_at kind_in width_at width_line_at width_in stated_at grounding_at grounding_in estimate_at place_of behind number_after image_after counts_in list_in value_in values_in image_in images_at list_at lists_at tables_at first_order_fault first_step_fault first_unpaid
chosen = refl

not_chosen : stated_choice task
    (certificate (table_of (codes "1 4" ∷ codes "2 0" ∷ [])) two_rows) ≡ Plain
unfolding head_at version_at version_in kind_at kind_in width_at width_line_at width_in stated_at grounding_at grounding_in estimate_at place_of behind number_after image_after counts_in list_in value_in values_in image_in images_at list_at lists_at tables_at first_order_fault first_step_fault first_unpaid
not_chosen = refl
