-- A graph whose search opens.
use Rattle.std.specs.Prelude.{◌≡◌, ℕ}
use Rattle.pb_model.specs.Store.{Rows}
use Rattle.pb_machine.specs.Counts.{opening_counts}
use Rattle.pb_machine.specs.Machine.{opening_machine}
use Rattle.pb_lease.specs.GraphValue.{GraphValue, setup_in, counts_in}
use Rattle.pb_lease.specs.Moments.{IsMoment}

-- Nothing was leased yet, and the graph is the opening moment of the lease machine.
pub record IsNewGraph (g : GraphValue) : Type 0 where
  pub counts : counts_in g ≡ opening_counts g.table.settings 0
  pub moment : (recorded : (worker : ℕ) → Rows) → IsMoment g recorded (opening_machine (setup_in g))
