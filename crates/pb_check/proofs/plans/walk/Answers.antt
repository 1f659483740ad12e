use Rattle.std.proofs.Common.{ℕ, List, subst}
use Rattle.pb_task.specs.Parts.{space_of}
use Rattle.pb_check.specs.Faults.{Gives}
use Rattle.pb_check.specs.Judging.{walk}
use Rattle.pb_check.proofs.plans.walk.Goals as goal

pub walk_lines-requires-clause-actions : goal.walk_lines-requires-clause-actions
walk_lines-requires-clause-actions c = c.actions.invariant.0

pub walk_lines-requires-clause-lines : goal.walk_lines-requires-clause-lines
walk_lines-requires-clause-lines c = c.actions.invariant.1

pub returns : goal.returns
returns c =
    subst (λ (actions : List ℕ). Gives (λ x. x) c.walk_lines.result (walk (space_of c.args.task.now) (space_of c.args.task.now).start 0 0 actions)) c.actions.view_is c.walk_lines.ensures
