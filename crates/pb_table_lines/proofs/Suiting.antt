-- Tables that suit a task can be stated.
use Rattle.std.proofs.Common.{ℕ, ◌^◌, ◌<◌, ◌≤◌, List, [], length, subst, arith}
use Rattle.std.proofs.lemmas.List.{get_or_default}
use Rattle.pb_tables.specs.Tables.{TrapValue, TableValue, table_at, trap_at}
use Rattle.pb_tables.specs.Order.{IsWritten}
use Rattle.pb_tables.proofs.Callers.{images_small, suiting_written}
use Rattle.pb_table_lines.specs.Spelling.{FitDigits}
use Rattle.pb_table_lines.specs.Laws.{SuitingTablesCanBeStated}

-- a list that is written as it should be, for so many atoms, has so many digits
fits : (count digits tracked : ℕ) (listed : List ℕ) → 2 ^ count ≤ 16 ^ digits → IsWritten count tracked listed → length listed < 2 ^ 63 → FitDigits digits tracked listed
fits count digits tracked listed more is few =
    let small = is.small in
    record {
      tracked_small = omega (arith, small, more);
      few = few;
      small = λ k d within. let below = images_small count tracked listed is k d within in omega (arith, below, more);
    }

pub suiting_tables_can_be_stated : SuitingTablesCanBeStated
suiting_tables_can_be_stated strips tables digits are suits more =
    let written = suiting_written strips tables suits in
    record {
      lawful = are;
      tables_fit = λ k d within.
          subst (λ (table : TableValue). FitDigits digits table.tracked table.listed) (get_or_default tables.tables k (record { tracked = 0; listed = []; values = [] }) d within)
          (fits strips.atoms digits (table_at tables.tables k).tracked (table_at tables.tables k).listed more (written.0.each k within) (are.each k (record { tracked = 0; listed = []; values = [] }) within).listed_few);
      traps_fit = λ k d within.
          subst (λ (trap : TrapValue). FitDigits digits trap.tracked trap.listed) (get_or_default tables.traps k (record { tracked = 0; listed = [] }) d within)
          (fits strips.atoms digits (trap_at tables.traps k).tracked (trap_at tables.traps k).listed more (written.1.each k within) (are.traps_listed_few k (record { tracked = 0; listed = [] }) within));
    }
