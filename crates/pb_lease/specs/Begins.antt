-- How a run of a search by leases begins: at the opening, or on the rows of an earlier run, which
-- were opened again with another weight.
use Rattle.std.specs.Prelude.{◌≡◌, ℕ, ◌+◌, ◌<◌, false, IsTrue, [], Option, None, Some}
use Rattle.pb_model.specs.Weight.{Weight, IsWeight}
use Rattle.pb_model.specs.Store.{Rows, Store}
use Rattle.pb_model.specs.Work.{reopened_row}
use Rattle.pb_machine.specs.declared.event.End.TheVariants.{Quiet}
use Rattle.pb_machine.specs.Settings.{weight_of, settings_with}
use Rattle.pb_machine.specs.Counts.{opening_counts}
use Rattle.pb_machine.specs.Machine.{is_same, Machine}
use Rattle.pb_machine.specs.Lawful.{reopened_machine, reopened_setup}
use Rattle.pb_lists.specs.Store.{store_with}
use Rattle.pb_bundles.specs.Homes.{key_at, home_rows}
use Rattle.pb_bundles.specs.Stores.{HasKeys}
use Rattle.pb_lease.specs.GraphValue.{GraphValue, setup_in, IsLeaseGraph}
use Rattle.pb_lease.specs.Moments.{IsMoment}

-- the rows at home as a store
abbrev pub home_store : GraphValue → Store
home_store g = store_with (home_rows g.homes) (weight_of g.table.settings) g.incumbent

-- The machine that a run begins with, where the graph has its rows. Nothing is leased, nobody has
-- signed off, and earlier runs spent some of the budget. Each worker knows the graph's incumbent,
-- and no other.
abbrev pub begin_machine : GraphValue → Machine
begin_machine g =
    record {
      counts = opening_counts g.table.settings g.table.past.spent;
      store = home_store g;
      given = λ worker. g.incumbent;
      told = λ worker. None;
      known = λ worker incumbent. is_same incumbent g.incumbent;
      broken = λ worker. false;
    }

-- A run begins with this graph: no event has come, and it is a lawful moment. So no lease is out.
-- The incumbent is a number that a word of 64 bits can say beside "none".
pub record IsBegin (g : GraphValue) : Type 0 where
  pub empty : g.table.journal ≡ []
  pub moment : (recorded : (worker : ℕ) → Rows) → IsMoment g recorded (begin_machine g)
  pub fits : (cost : ℕ) → g.incumbent ≡ Some cost → cost < 18446744073709551615

-- The graph is of the run that began with the first one: it has the same task, blocks, estimate and
-- settings, and the same runs before it.
pub record IsOfRun (begin g : GraphValue) : Type 0 where
  pub task : g.task ≡ begin.task
  pub abstraction : g.table.abstraction ≡ begin.table.abstraction
  pub choice : g.choice ≡ begin.choice
  pub settings : g.table.settings ≡ begin.table.settings
  pub past : g.table.past ≡ begin.table.past

-- each worker can have read this incumbent, and no other
abbrev pub KnowsAlone : Machine → Option ℕ → Type 0
KnowsAlone machine incumbent =
    (worker : ℕ) (other : Option ℕ) → IsTrue (machine.known worker other) → other ≡ incumbent

-- Take a lawful moment at which each worker knows the incumbent alone, of a graph without an event.
-- It is the machine that a run begins with, and a run may begin with the graph.
abbrev pub LawfulMomentsBegin : Type 0
LawfulMomentsBegin =
    (g : GraphValue) (recorded : (worker : ℕ) → Rows) (machine : Machine) → IsLeaseGraph g
    → g.table.journal ≡ [] → IsMoment g recorded machine → KnowsAlone machine g.incumbent
    → ((cost : ℕ) → g.incumbent ≡ Some cost → cost < 18446744073709551615)
    → (machine ≡ begin_machine g) × IsBegin g

-- The new graph is the old one, opened again with this weight. Each row is as a reopening makes it,
-- and the keys are noted anew. The run that ended is one of the earlier runs now. The incumbent
-- stays, and the journal is empty.
pub record IsReopened (old : GraphValue) (weight : Weight) (new : GraphValue) : Type 0 where
  pub task : new.task ≡ old.task
  pub abstraction : new.table.abstraction ≡ old.table.abstraction
  pub choice : new.choice ≡ old.choice
  pub settings : new.table.settings
      ≡ settings_with old.table.settings weight old.table.settings.pattern
  pub reopenings : new.table.past.reopenings ≡ old.table.past.reopenings + 1
  pub spent : new.table.past.spent ≡ old.table.spent
  pub journal : new.table.journal ≡ []
  pub incumbent : new.incumbent ≡ old.incumbent
  pub rows : (home state : ℕ) → home_rows new.homes home state
      ≡ reopened_row weight old.incumbent (home_rows old.homes home state)
  pub keys : HasKeys (home_store new) (key_at new.homes)

-- A graph at a quiet end begins another run when it is opened again with another weight.
abbrev pub ReopenedGraphsBegin : Type 0
ReopenedGraphsBegin =
    (old new : GraphValue) (weight : Weight) (recorded : (worker : ℕ) → Rows) (machine : Machine)
    → IsLeaseGraph old → IsMoment old recorded machine → old.table.end ≡ Some Quiet
    → IsWeight weight
    → ((cost : ℕ) → old.incumbent ≡ Some cost → cost < 18446744073709551615)
    → IsLeaseGraph new → IsReopened old weight new → IsBegin new

-- what a word of 64 bits can say beside "none", if it is a cost
abbrev pub FitsWord : Option ℕ → Type 0
FitsWord incumbent = (cost : ℕ) → incumbent ≡ Some cost → cost < 18446744073709551615

-- A run of one worker, who shares nothing, can begin with this graph: no event has come, and it is
-- a lawful moment. If a word can say the incumbent too, any run can (`IsBegin`).
pub record IsFirstMoment (g : GraphValue) : Type 0 where
  pub empty : g.table.journal ≡ []
  pub moment : (recorded : (worker : ℕ) → Rows) → IsMoment g recorded (begin_machine g)

-- Take a lawful moment of the old graph. The new graph, which is the old one opened again with this
-- weight, is the first moment of another run. The search of that run, and the machine that it
-- begins with, are those of the old graph, opened again.
abbrev pub BeginsAgain : (old : GraphValue) → Weight → (new : GraphValue) → Type 0
BeginsAgain old weight new =
    (recorded : (worker : ℕ) → Rows) (machine : Machine) → IsMoment old recorded machine
    → IsFirstMoment new
    × (FitsWord old.incumbent → IsBegin new)
    × (setup_in new ≡ reopened_setup (setup_in old) weight)
    × (begin_machine new ≡ reopened_machine (setup_in old) weight machine)
