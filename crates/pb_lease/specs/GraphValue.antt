-- What a contract sees of a graph that gives out leases: the task, the choice of an estimate, the
-- numbers of the lease machine, the rows at home, and the incumbent.
use Rattle.std.specs.Prelude.{◌≡◌, ℕ, ◌<◌, true, not, Option, Some, is_some, length}
use Rattle.pb_machine.specs.Settings.{weight_of}
use Rattle.pb_machine.specs.Counts.{Counts}
use Rattle.pb_machine.specs.History.{IsHistory}
use Rattle.pb_machine.specs.Machine.{Setup}
use Rattle.pb_machine.specs.Whole.{is_away}
use Rattle.pb_task.specs.declared.parts.TaskParts.{TaskParts}
use Rattle.pb_task.specs.Parts.{IsTask}
use Rattle.pb_estimate.specs.Choices.{Choice}
use Rattle.pb_estimate.specs.Estimates.{suits}
use Rattle.pb_lists.specs.Bundle.{Content}
use Rattle.pb_abstract.specs.Graph.{IsGraphOf}
use Rattle.pb_bundles.specs.Homes.{HomeTable, content_at}
use Rattle.pb_lease.specs.Tables.{Table, blocks, counts_of}
use Rattle.pb_lease.specs.LeaseValue.{LeaseValue}
use Rattle.pb_lease.specs.Leased.{setup_of, grant_of, HasScope, FitsScopes}

pub record GraphValue : Type 0 where
  pub task : TaskParts
  pub choice : Choice  -- of the estimate
  pub table : Table  -- the numbers, with the abstract graph, the settings and the journal
  pub homes : HomeTable  -- the bundles at home and the keys that were noted
  pub incumbent : Option ℕ

-- what the graph's search is: its task, by its blocks, with its estimate and its settings, opened
-- again as often as the graph was
abbrev pub setup_in : GraphValue → Setup
setup_in g = setup_of g.task g.table.abstraction g.choice g.table.settings g.table.past.reopenings

-- who has which lease, what is left, which blocks are hot, and who has signed off
abbrev pub counts_in : GraphValue → Counts
counts_in g = counts_of g.table

-- What is true of every graph. The estimate suits its task, so it is admissible. The blocks are
-- those of its task, and the journal is a legal history. Each block has a place and a key that is noted or not. Its bundle is at its place
-- exactly if the block is in no leased scope. All bundles at home have the weight of the settings.
pub record IsLeaseGraph (g : GraphValue) : Type 0 where
  pub is_task : IsTask g.task
  pub suits : suits g.task g.choice ≡ true
  pub graph_of : IsGraphOf g.task g.table.abstraction
  pub legal : IsHistory (blocks g.table) g.table.settings g.table.past.spent g.table.journal
      (counts_in g)
  pub places : length g.homes.bundles ≡ (blocks g.table).count
  pub key_places : length g.homes.keys ≡ (blocks g.table).count
  pub home : (block : ℕ) → block < (blocks g.table).count
      → is_some (content_at g.homes block) ≡ not (is_away (setup_in g) (counts_in g) block)
  pub weights : (block : ℕ) (content : Content) → content_at g.homes block ≡ Some content
      → content.weight ≡ weight_of g.table.settings

-- The lease is the one that the graph gave to this worker. The graph's grant is the lease's, at the
-- weight of the search and with its estimate, and the lease has the bundles of its block's scope.
-- The bundles of any scope fit in their list without more memory.
pub record IsOfGraph (g : GraphValue) (lease : LeaseValue) : Type 0 where
  pub leased : (counts_in g).leases lease.worker ≡ Some (grant_of lease)
  pub weight : lease.weight ≡ weight_of g.table.settings
  pub choice : lease.choice ≡ g.choice
  pub scope : HasScope g.table.abstraction lease
  pub fits : FitsScopes g.table.abstraction lease.fits
