-- The rows of a graph that gives out leases as a store, once all of them are at home.
use Rattle.std.specs.Prelude.{◌≡◌, ℕ, IsFalse}
use Rattle.pb_model.specs.Store.{Rows}
use Rattle.pb_machine.specs.Settings.{weight_of}
use Rattle.pb_machine.specs.Machine.{Machine}
use Rattle.pb_lists.specs.Store.{store_with}
use Rattle.pb_bundles.specs.Homes.{home_rows}
use Rattle.pb_lease.specs.GraphValue.{GraphValue, IsLeaseGraph}
use Rattle.pb_lease.specs.Choices.{is_out_in}
use Rattle.pb_lease.specs.Moments.{IsMoment}

-- With no lease out, the rows at home are the store of each moment of the search that the graph is.
-- The store has the graph's incumbent and the weight of the search.
abbrev pub HomeRowsAreWhole : Type 0
HomeRowsAreWhole =
    (g : GraphValue) (recorded : (worker : ℕ) → Rows) (machine : Machine) → IsLeaseGraph g
    → IsFalse (is_out_in g) → IsMoment g recorded machine
    → machine.store ≡ store_with (home_rows g.homes) (weight_of g.table.settings) g.incumbent
