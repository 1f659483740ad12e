-- What a search leaves, apart from how it searched. A further engine is one case more of
-- `SearchLeaves`; the claims of a search cite nothing else of it.
use Rattle.std.specs.Prelude.{◌≡◌, Option, None, Some, List}
use Rattle.pb_model.specs.Space.{Space}
use Rattle.pb_model.specs.Guide.{Guide}
use Rattle.pb_model.specs.Store.{Store}
use Rattle.pb_model.specs.Plan.{Plan}
use Rattle.pb_model.specs.Certificate.{IsBackedBy}
use Rattle.pb_machine.specs.declared.event.End.{End}
use Rattle.pb_machine.specs.declared.event.Event.{Event}
use Rattle.pb_machine.specs.declared.settings.Settings.{Settings}
use Rattle.pb_task.specs.declared.parts.TaskParts.{TaskParts}
use Rattle.pb_estimate.specs.Choices.{Choice}
use Rattle.pb_search.specs.Ends.{searched_guide}
use Rattle.pb_search.specs.Searches.{SearchEnds}
use Rattle.pb_owners.specs.Owners.{OwnersValue, guide_in, owners_store}
use Rattle.pb_owners.specs.Leaves.{LeavesOwners}
use Rattle.pb_cert.specs.Found.{IsTracedIfAny}
use Rattle.pb_command.specs.declared.command.Engine.{Engine}
use Rattle.pb_command.specs.declared.command.Engine.TheVariants.{Leases, Owners}
use Rattle.pb_command.specs.Meaning.{SolveMeaning}

-- the engine that the words ask for
abbrev pub engine_asked : SolveMeaning → Engine
engine_asked solve = solve.engine

-- what the search looked up, the rows that it has at its end, and its journal, if the engine keeps
-- one
pub record Left : Type 0 where
  pub guide : Guide
  pub store : Store
  pub journal : Option (List Event)

-- what a search by leases leaves
abbrev pub left_by_leases : {parts : TaskParts} {choice : Choice} {settings : Settings} {end : End}
    {journal : List Event} → SearchEnds parts choice settings end journal → Left
left_by_leases {parts} {choice} {settings} {end} {journal} run = record {
  guide = searched_guide parts run.ends.abstraction choice;
  store = run.ends.run.machine.store;
  journal = Some journal;
}

-- what a hash-distributed search leaves; it keeps no journal
abbrev pub left_by_owners : OwnersValue → Left
left_by_owners owners =
    record { guide = guide_in owners; store = owners_store owners; journal = None }

-- a search of the task by this engine and this estimate, with these settings, came to this end and
-- left this
abbrev pub SearchLeaves : Engine → TaskParts → Choice → Settings → End → Left → Type 0
SearchLeaves Leases parts choice settings end left =
    (journal : List Event) × (run : SearchEnds parts choice settings end journal)
    × (left ≡ left_by_leases run)
SearchLeaves Owners parts choice settings end left =
    (owners : OwnersValue) × LeavesOwners parts choice settings end owners
    × (left ≡ left_by_owners owners)

-- The plan is the one that the rows lead to, and costs no more than the incumbent. Without an
-- incumbent there is none.
pub record FindsIn (space : Space) (left : Left) (plan : Option Plan) : Type 0 where
  pub backed : IsBackedBy left.store.incumbent plan
  pub traced : IsTracedIfAny space left.guide left.store plan
