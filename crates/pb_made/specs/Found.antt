-- What a search that came to a quiet end found: the plan that its rows lead to, or none.
use Rattle.std.specs.Prelude.{Option, List}
use Rattle.pb_model.specs.Plan.{Plan}
use Rattle.pb_model.specs.Certificate.{IsBackedBy}
use Rattle.pb_machine.specs.declared.event.End.TheVariants.{Quiet}
use Rattle.pb_machine.specs.declared.event.Event.{Event}
use Rattle.pb_machine.specs.declared.settings.Settings.{Settings}
use Rattle.pb_task.specs.declared.parts.TaskParts.{TaskParts}
use Rattle.pb_task.specs.Parts.{space_of}
use Rattle.pb_estimate.specs.Choices.{Plain}
use Rattle.pb_search.specs.Ends.{searched_guide}
use Rattle.pb_search.specs.Searches.{SearchEnds}
use Rattle.pb_cert.specs.Found.{IsTracedIfAny}

-- A search of the task by the plain estimate, with these settings, came to a quiet end, and this is
-- its journal. It found
-- the plan that its rows lead to, which costs no more than its incumbent; or it has no incumbent,
-- and there is no plan.
pub record Finds (parts : TaskParts) (settings : Settings) (journal : List Event)
    (plan : Option Plan) : Type 0 where
  pub run : SearchEnds parts Plain settings Quiet journal
  pub backed : IsBackedBy run.ends.run.machine.store.incumbent plan
  pub traced : IsTracedIfAny (space_of parts) (searched_guide parts run.ends.abstraction Plain)
      run.ends.run.machine.store plan
