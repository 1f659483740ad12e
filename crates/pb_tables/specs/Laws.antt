-- The laws of this crate. Each is proved, as the contract of the public function that has its name.
use Rattle.std.specs.Prelude.{◌≡◌, ◌^◌, ◌≤◌, ℕ, IsTrue}
use Rattle.pb_model.specs.Guide.{IsAdmissible}
use Rattle.pb_task.specs.declared.parts.StripsParts.{StripsParts}
use Rattle.pb_task.specs.Strips.{strips_space}
use Rattle.pb_model.specs.declared.row.Estimate.TheVariants.{Cost}
use Rattle.pb_tables.specs.Tables.{TablesValue, AreTables}
use Rattle.pb_tables.specs.Suits.{suit}
use Rattle.pb_tables.specs.Estimate.{tables_estimate}

-- Tables and traps that suit a task give an admissible estimate of all its states.
abbrev pub TablesAreAdmissible : Type 0
TablesAreAdmissible =
    (strips : StripsParts) (tables : TablesValue) → IsTrue (suit strips tables)
    → IsAdmissible (strips_space strips) (tables_estimate strips tables)

-- No estimate is above 2^52: there are at most 2^12 tables, and no value is above 2^40.
abbrev pub EstimatesAreSmall : Type 0
EstimatesAreSmall =
    (strips : StripsParts) (tables : TablesValue) → AreTables tables → (state cost : ℕ)
    → tables_estimate strips tables state ≡ Cost cost → cost ≤ 2 ^ 52
