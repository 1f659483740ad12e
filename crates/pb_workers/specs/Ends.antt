-- What a search by leases has when it ended.
use Rattle.std.specs.Prelude.{◌≡◌, ℕ, List}
use Rattle.pb_model.specs.Weight.{Weight, IsWeight}
use Rattle.pb_model.specs.Plan.{IncumbentHolds}
use Rattle.pb_model.specs.Store.{Store, IsShown, IsQuiet, HasOpened}
use Rattle.pb_model.specs.Sound.{IsSound}
use Rattle.pb_model.specs.Work.{Work, Comes, expansions, broken_expansions, reopenings, ReopensQuiet, opening_store}
use Rattle.pb_machine.specs.Settings.{weight_of}
use Rattle.pb_task.specs.Parts.{space_of}
use Rattle.pb_bundles.specs.Homes.{home_rows}
use Rattle.pb_bundles.specs.Stores.{store_of}
use Rattle.pb_lease.specs.Leased.{guide_of}
use Rattle.pb_lease.specs.GraphValue.{GraphValue}

-- the rows at home with the incumbent, at the weight of the search
abbrev pub home_store : GraphValue → Store
home_store g = store_of (home_rows g.homes) g.incumbent (weight_of g.table.settings)

-- The rows at home are a sound store without an Opened row. The incumbent is shown by a goal's row;
-- some plan costs no more, and no plan costs less than the incumbent divided by the weight. Without
-- an incumbent there is no plan.
pub record IsBestEnd (g : GraphValue) : Type 0 where
  pub sound : IsSound (space_of g.task) (guide_of g.task g.table.abstraction g.choice)
      (home_store g)
  pub quiet : IsQuiet (home_store g)
  pub shown : IsShown (space_of g.task) (guide_of g.task g.table.abstraction g.choice)
      (home_store g)
  pub holds : IncumbentHolds (space_of g.task) (weight_of g.table.settings) g.incumbent

-- Exactly as many expansions as the budget allows, those of earlier runs among them and none of them
-- broken off, lead from the start's row alone to the rows at home. One of these is Opened. The rows
-- were opened again between one run and the next, when none was Opened. In a first run the start's
-- row has the weight of the search.
pub record IsSpentEnd (g : GraphValue) : Type 0 where
  pub first_weight : Weight
  pub is_weight : IsWeight first_weight
  pub works : List Work
  pub comes : Comes (space_of g.task) (guide_of g.task g.table.abstraction g.choice) works
      (opening_store (space_of g.task) (guide_of g.task g.table.abstraction g.choice) first_weight)
      (home_store g)
  pub all : expansions works ≡ g.table.settings.budget
  pub none_broken : broken_expansions works ≡ 0
  pub reopened : reopenings works ≡ g.table.past.reopenings
  pub between : ReopensQuiet (space_of g.task) (guide_of g.task g.table.abstraction g.choice) works
      (opening_store (space_of g.task) (guide_of g.task g.table.abstraction g.choice) first_weight)
  pub first_run : g.table.past.reopenings ≡ 0 → first_weight ≡ weight_of g.table.settings
  pub opened : (block : ℕ) × HasOpened ((home_store g).rows block)
