-- Worked rows: one action leads at cost 3 from the atom 0, which it needs and deletes, to the atom
-- 1, which is the goal. The images are 1 (the start) and 2 (the goal).
use Rattle.std.specs.Prelude.{◌≡◌, ℕ, false, List, [], ◌∷◌, None, Some}
use Rattle.pb_model.specs.declared.row.Estimate.TheVariants.{Cost, Dead}
use Rattle.pb_task.specs.declared.grounding.Grounding.TheVariants as groundings
use Rattle.pb_task.specs.declared.parts.StripsParts.{StripsParts}
use Rattle.pb_tables.specs.declared.fault.TablesFault.TheVariants.{Line, Unpaid}
use Rattle.pb_tables.specs.Tables.{TableValue, TablesValue}
use Rattle.pb_tables.specs.Suits.{tables_fault}
use Rattle.pb_tables.specs.Estimate.{tables_estimate}

abbrev pub example : StripsParts
example = record {
  atoms = 2;
  actions =
      record { name = []; needs = 1; adds = 2; deletes = 1; cost = 3 } ∷ [];
  start = 1;
  goal = 2;
  never = false;
  grounding = groundings.All;
}

-- a table of both atoms that lists these two images, with the values of one after the other
abbrev pub table_with : (first second : ℕ) → (values : List ℕ) → TableValue
table_with first second values =
    record { tracked = 3; listed = first ∷ second ∷ []; values = values }

-- one table with one sum
abbrev pub one_table : (values : List ℕ) → TablesValue
one_table values = record { sums = 1; tables = table_with 1 2 values ∷ []; traps = [] }

-- two tables with one sum, of these values of the start
abbrev pub two_tables : (one other : ℕ) → TablesValue
two_tables one other = record {
  sums = 1;
  tables = table_with 1 2 (one ∷ 0 ∷ []) ∷ table_with 1 2 (other ∷ 0 ∷ []) ∷ [];
  traps = [];
}

-- one table with two sums, of these values of the start
abbrev pub two_sums : (one other : ℕ) → TablesValue
two_sums one other =
    record { sums = 2; tables = table_with 1 2 (one ∷ other ∷ 0 ∷ 0 ∷ []) ∷ []; traps = [] }

-- one trap with these images
abbrev pub one_trap : (tracked : ℕ) → (listed : List ℕ) → TablesValue
one_trap tracked listed =
    record { sums = 1; tables = []; traps = record { tracked = tracked; listed = listed } ∷ [] }

-- What is estimated. Where no table is there the sum is 0, and an image that isn't listed makes it
-- 0 as well.
pub record ExamplesAreEstimated : Type 0 where
  pub start : tables_estimate example (one_table (3 ∷ 0 ∷ [])) 1 ≡ Cost 3
  pub goal : tables_estimate example (one_table (3 ∷ 0 ∷ [])) 2 ≡ Cost 0
  pub unlisted : tables_estimate example (one_table (3 ∷ 0 ∷ [])) 3 ≡ Cost 0
  pub summed : tables_estimate example (two_tables 1 2) 1 ≡ Cost 3
  pub greatest : tables_estimate example (two_sums 2 3) 1 ≡ Cost 3
  pub trapped : tables_estimate example (one_trap 3 (0 ∷ [])) 0 ≡ Dead
  pub free : tables_estimate example (one_trap 3 (0 ∷ [])) 1 ≡ Cost 0
  pub nothing : tables_estimate example (record { sums = 1; tables = []; traps = [] }) 1 ≡ Cost 0

-- Which tables suit the task, and what the first fault of the others is.
pub record ExamplesAreJudged : Type 0 where
  pub suits : tables_fault example (one_table (3 ∷ 0 ∷ [])) ≡ None
  pub shared : tables_fault example (two_tables 1 2) ≡ None
  pub either : tables_fault example (two_sums 2 3) ≡ None
  pub nothing : tables_fault example (record { sums = 1; tables = []; traps = [] }) ≡ None
  pub trap : tables_fault example (one_trap 3 (0 ∷ [])) ≡ None
  pub dear : tables_fault example (one_table (4 ∷ 0 ∷ [])) ≡ Some (Unpaid 0 0)
  pub dear_together : tables_fault example (two_tables 2 2) ≡ Some (Unpaid 0 0)
  pub dear_later : tables_fault example (two_sums 3 4) ≡ Some (Unpaid 1 0)
  pub dear_goal : tables_fault example (one_table (3 ∷ 1 ∷ [])) ≡ Some (Line 0 2)
  pub falling : tables_fault example (record {
    sums = 1;
    tables = table_with 2 1 (3 ∷ 0 ∷ []) ∷ [];
    traps = [];
  }) ≡ Some (Line 0 2)
  pub leads_out : tables_fault example (record {
    sums = 1;
    tables = record { tracked = 3; listed = 1 ∷ []; values = 3 ∷ [] } ∷ [];
    traps = [];
  }) ≡ Some (Line 0 1)
  pub foreign_atom : tables_fault example (record {
    sums = 1;
    tables = record { tracked = 4; listed = []; values = [] } ∷ [];
    traps = [];
  }) ≡ Some (Line 0 0)
  pub foreign_image : tables_fault example (record {
    sums = 1;
    tables = record { tracked = 1; listed = 2 ∷ []; values = 0 ∷ [] } ∷ [];
    traps = [];
  }) ≡ Some (Line 0 1)
  pub way_out : tables_fault example (one_trap 2 (0 ∷ [])) ≡ Some (Line 0 1)
  pub goal_in_trap : tables_fault example (one_trap 2 (0 ∷ 2 ∷ [])) ≡ Some (Line 0 2)
