use Rattle.std.proofs.Common.{◌≡◌, true, sym, subst}
use Rattle.std.specs.Arc.{arc_value}
use Rattle.pb_task.specs.declared.parts.TaskParts.{TaskParts}
use Rattle.pb_estimate.specs.Choices.{Choice}
use Rattle.pb_estimate.specs.Estimates.{suits}
use Rattle.pb_command.specs.Causes.{solve_meant}
use Rattle.pb_answer.proofs.Certified.{found, stop_found}
use Rattle.pb_answer.proofs.owners.solve_by_owners.Goals as goal

pub search_by_owners-requires-clause-suits : goal.search_by_owners-requires-clause-suits
search_by_owners-requires-clause-suits g c κs within =
    subst (λ (choice : Choice). suits (arc_value c.args.task.now) choice ≡ true)
    (sym c.in_ok-searched.ensures.cases) c.requires.suits

pub answer_end-requires-clause-suits : goal.answer_end-requires-clause-suits
answer_end-requires-clause-suits g c =
    subst (λ (p : TaskParts). suits p c.args.choice.now ≡ true) (sym c.deref.ensures)
    c.requires.suits

pub returns-in-Quiet : goal.returns-in-Quiet
returns-in-Quiet g c =
    found (solve_meant c.args.solve) c.args.choice.now c.deref.result.now
    (arc_value c.args.task.now) c.deref.ensures c.answer_end.result c.answer_end.ensures

pub returns-in-Budget : goal.returns-in-Budget
returns-in-Budget g c =
    stop_found (solve_meant c.args.solve) c.args.choice.now c.deref-in-Budget.result.now
    (arc_value c.args.task.now) c.deref-in-Budget.ensures c.answer_stop.result
    c.answer_stop.ensures
