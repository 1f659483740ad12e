-- Estimates of every kind of task, by every choice.
use Rattle.std.proofs.Common.{◌≡◌, ℕ, ◌≤◌, Bool, true, false, not, if◌then◌else◌, nat_le, arith}
use Rattle.std.proofs.lemmas.Bool.{and_parts, not-true}
use Rattle.std.proofs.lemmas.Bool.Decides.{nat_tests}
use Rattle.pb_model.specs.declared.row.Estimate.{Estimate}
use Rattle.pb_model.specs.declared.row.Estimate.TheVariants.{Cost, Dead}
use Rattle.pb_model.specs.Guide.{IsLowerBound, IsAdmissible}
use Rattle.pb_task.specs.declared.parts.TaskParts.{TaskParts}
use Rattle.pb_task.specs.declared.parts.TaskParts.TheVariants.{Grid, Tiles, Strips}
use Rattle.pb_task.specs.Parts.{space_of, IsTask}
use Rattle.pb_task.specs.Strips.{is_within as has_atoms}
use Rattle.pb_pattern.specs.Patterns.{pattern_value}
use Rattle.pb_pattern.proofs.Callers.{patterns_are_admissible}
use Rattle.pb_estimate.specs.Choices.{Plain, Pattern, Tables}
use Rattle.pb_tables.specs.Tables.{TablesValue}
use Rattle.pb_tables.specs.Estimate.{tables_estimate}
use Rattle.pb_tables.proofs.Callers.{tables_are_admissible}
use Rattle.pb_estimate.specs.Estimates.{estimate_of, estimate_by, estimate_by_tables, tables_suit, greater, suits}
use Rattle.pb_estimate.specs.Laws.{EstimatesAreAdmissible}
use Rattle.pb_estimate.proofs.Grids.{no_way_is_shorter}
use Rattle.pb_estimate.proofs.Ways.{no_slides_are_fewer}
use Rattle.pb_estimate.proofs.Reached.{no_walk_costs_less}

-- the plain estimates
plain_is_admissible : (parts : TaskParts) → IsTask parts → IsAdmissible (space_of parts) (estimate_of parts)
plain_is_admissible (Grid grid) is state actions cost goal is_state walk e = no_way_is_shorter grid is state actions cost goal walk e
plain_is_admissible (Tiles tiles) is state actions cost goal is_state walk e = no_slides_are_fewer tiles is state actions cost goal walk e
plain_is_admissible (Strips strips) is state actions cost goal is_state walk e = no_walk_costs_less strips state actions cost goal walk e

-- the greater of two lower bounds is one
greater_is_bound : (one other : Estimate) (cost : ℕ) → IsLowerBound one cost → IsLowerBound other cost → IsLowerBound (greater one other) cost
greater_is_bound Dead other cost h k = h
greater_is_bound (Cost n) Dead cost h k = k
greater_is_bound (Cost n) (Cost m) cost h k = omega arith

-- the number of a pattern that suits a task
pub is_within : (parts : TaskParts) (number : ℕ) → suits parts (Pattern number) ≡ true → number ≤ 12
is_within parts number e = let most : nat_le number 12 ≡ true = (and_parts (nat_le 1 number) (nat_le number 12) e).1 in grind (arith, nat_tests, most)

-- the estimates by a pattern
by_pattern : (parts : TaskParts) (number : ℕ) → IsTask parts → number ≤ 12 → IsAdmissible (space_of parts) (estimate_by parts (Pattern number))
by_pattern parts number is most state actions cost goal is_state walk e =
    let plain = plain_is_admissible parts is state actions cost goal is_state walk e in
    let pattern = (patterns_are_admissible parts number is most).0 state actions cost goal is_state walk e in
    greater_is_bound (estimate_of parts state) (pattern_value parts number state) cost plain pattern

or_dead : (never : Bool) (estimate : Estimate) (cost : ℕ) → never ≡ false → IsLowerBound estimate cost → IsLowerBound (if never then Dead else estimate) cost
or_dead false estimate cost e bound = bound
or_dead true estimate cost e bound = cc

-- the estimates by tables that suit a task; a goal that holds nowhere is Dead
by_tables : (parts : TaskParts) (tables : TablesValue) → tables_suit parts tables ≡ true → IsAdmissible (space_of parts) (estimate_by_tables parts tables)
by_tables (Grid grid) tables fits state actions cost goal is_state walk e = cc
by_tables (Tiles tiles) tables fits state actions cost goal is_state walk e = cc
by_tables (Strips strips) tables fits state actions cost goal is_state walk e =
    let parts = and_parts (not strips.never) (has_atoms strips.atoms strips.goal goal) e in
    or_dead strips.never (tables_estimate strips tables state) cost (not-true strips.never parts.0)
    (tables_are_admissible strips tables fits state actions cost goal is_state walk e)

pub estimates_are_admissible : EstimatesAreAdmissible
estimates_are_admissible parts Plain is fits = plain_is_admissible parts is
estimates_are_admissible parts (Pattern number) is fits = by_pattern parts number is (is_within parts number fits)
estimates_are_admissible parts (Tables tables) is fits = by_tables parts tables fits
