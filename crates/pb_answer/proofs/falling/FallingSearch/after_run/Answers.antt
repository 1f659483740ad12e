use Rattle.std.proofs.Common.{sym, subst}
use Rattle.pb_task.specs.declared.parts.TaskParts.{TaskParts}
use Rattle.pb_task.specs.Parts.{space_of}
use Rattle.pb_lists.specs.Store.{IsQuietEnd}
use Rattle.pb_lease.specs.Begins.{home_store}
use Rattle.pb_answer.specs.FallingRuns.{guide_in}
use Rattle.pb_answer.proofs.falling.FallingSearch.after_run.Goals as goal

pub claimed_plan-requires-clause-quiet : goal.claimed_plan-requires-clause-quiet
claimed_plan-requires-clause-quiet c = λ quiet.
    subst (λ (p : TaskParts). IsQuietEnd (space_of p) (guide_in c.args.graph) (home_store c.args.graph))
    (sym c.deref.ensures) (c.requires.quiet quiet)
