-- What a search by leases is, and what the holder of a lease that is out has done with it.
use Rattle.std.specs.Prelude.{◌≡◌, ℕ, ◌<◌, ◌≤◌, List, length, Some, is_some}
use Rattle.std.specs.List.Sorted.{IsStrictlyIncreasing}
use Rattle.pb_model.specs.Guide.{Guide}
use Rattle.pb_machine.specs.declared.event.Grant.{Grant}
use Rattle.pb_machine.specs.declared.settings.Settings.{Settings}
use Rattle.pb_machine.specs.Machine.{Setup, Machine, HasWorked, lent_store}
use Rattle.pb_machine.specs.Turns.{AreLeaseTurns}
use Rattle.pb_task.specs.declared.parts.TaskParts.{TaskParts}
use Rattle.pb_task.specs.Parts.{space_of}
use Rattle.pb_estimate.specs.Choices.{Choice}
use Rattle.pb_estimate.specs.Estimates.{estimate_by}
use Rattle.pb_abstract.specs.Graph.{AbstractGraph, blocks_of, has, home_of}
use Rattle.pb_bundles.specs.Parts.{content_in}
use Rattle.pb_lease.specs.LeaseValue.{LeaseValue, leased_store, HasWeights}

-- the guide of a search by blocks: the estimate of each state by the choice, and the block that is
-- its home
abbrev pub guide_of : TaskParts → AbstractGraph → Choice → Guide
guide_of task abstraction choice =
    record { estimate = estimate_by task choice; home = home_of task abstraction }

-- what is searched, and by what: the task, by the blocks of the graph, with estimates by the choice
abbrev pub setup_of : TaskParts → AbstractGraph → Choice → Settings → (reopenings : ℕ) → Setup
setup_of task abstraction choice settings reopenings =
    record {
      space = space_of task;
      guide = guide_of task abstraction choice;
      blocks = blocks_of abstraction;
      settings = settings;
      reopenings = reopenings;
    }

-- what the lease machine has of a lease
abbrev pub grant_of : LeaseValue → Grant
grant_of lease = record { block = lease.block; quota = lease.quota }

-- The lease is out in this machine. Its work leads to its rows from those that it was given or last
-- renewed with. The work has exactly the expansions that the lease counts, and at most
-- `most_broken` broken ones.
pub record IsOut (setup : Setup) (machine : Machine) (most_broken : ℕ) (lease : LeaseValue) : Type 0
  where
    pub leased : machine.counts.leases lease.worker ≡ Some (grant_of lease)
    pub work : HasWorked setup machine lease.worker (grant_of lease) lease.used most_broken
        (leased_store lease)

-- the work of a lease that is out was done in turns
abbrev pub IsInTurns : (setup : Setup) (machine : Machine) (most_broken : ℕ) (lease : LeaseValue)
    → IsOut setup machine most_broken lease → Type 0
IsInTurns setup machine most_broken lease out =
    AreLeaseTurns setup.space setup.guide out.work.works
    (lent_store setup lease.block machine.store (machine.given lease.worker))

-- the lease is out, and its work was done in turns
abbrev pub IsOutInTurns : (setup : Setup) (machine : Machine) (most_broken : ℕ) (lease : LeaseValue)
    → Type 0
IsOutInTurns setup machine most_broken lease =
    (out : IsOut setup machine most_broken lease) × IsInTurns setup machine most_broken lease out

-- The lease has the bundles of its block's scope and no others, each with its weight.
pub record HasScope (abstraction : AbstractGraph) (lease : LeaseValue) : Type 0 where
  pub blocks : (block : ℕ) → is_some (content_in lease.parts block)
      ≡ (blocks_of abstraction).scope lease.block block
  pub weights : HasWeights lease

-- so many bundles are enough for those of any scope
abbrev pub FitsScopes : AbstractGraph → (fits : ℕ) → Type 0
FitsScopes abstraction fits =
    (block : ℕ) (scope : List ℕ) → block < (blocks_of abstraction).count
    → IsStrictlyIncreasing scope
    → ((other : ℕ) → has scope other ≡ (blocks_of abstraction).scope block other)
    → length scope ≤ fits
