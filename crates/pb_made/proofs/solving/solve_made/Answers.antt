use Rattle.std.proofs.Common.{sym, subst}
use Rattle.std.specs.Arc.{arc_value}
use Rattle.pb_task.specs.declared.parts.TaskParts.{TaskParts}
use Rattle.pb_made.specs.Made.{IsMadeTask}
use Rattle.pb_made.proofs.Clauses as clauses
use Rattle.pb_made.proofs.solving.solve_made.Goals as goal

pub returns-clause-plan : goal.returns-clause-plan
returns-clause-plan g c =
    clauses.says_plan c.args.kind c.args.seed c.args.size c.args.workers (arc_value c.in_ok-task.task)
    (subst (λ (p : TaskParts). IsMadeTask c.args.kind c.args.seed c.args.size p) (sym c.in_ok-task.ensures.ok) c.in_ok-made.ensures) c.answer_task.result c.answer_task.ensures

pub returns-clause-least : goal.returns-clause-least
returns-clause-least g c =
    clauses.says_least c.args.kind c.args.seed c.args.size c.args.workers (arc_value c.in_ok-task.task)
    (subst (λ (p : TaskParts). IsMadeTask c.args.kind c.args.seed c.args.size p) (sym c.in_ok-task.ensures.ok) c.in_ok-made.ensures) c.answer_task.result c.answer_task.ensures

pub returns-clause-bound : goal.returns-clause-bound
returns-clause-bound g c =
    clauses.says_bound c.args.kind c.args.seed c.args.size c.args.workers (arc_value c.in_ok-task.task)
    (subst (λ (p : TaskParts). IsMadeTask c.args.kind c.args.seed c.args.size p) (sym c.in_ok-task.ensures.ok) c.in_ok-made.ensures) c.answer_task.result c.answer_task.ensures

pub returns-clause-certified : goal.returns-clause-certified
returns-clause-certified g c =
    clauses.says_certified c.args.kind c.args.seed c.args.size c.args.workers (arc_value c.in_ok-task.task)
    (subst (λ (p : TaskParts). IsMadeTask c.args.kind c.args.seed c.args.size p) (sym c.in_ok-task.ensures.ok) c.in_ok-made.ensures) c.answer_task.result c.answer_task.ensures

pub returns-clause-none : goal.returns-clause-none
returns-clause-none g c =
    clauses.says_none c.args.kind c.args.seed c.args.size c.args.workers (arc_value c.in_ok-task.task)
    (subst (λ (p : TaskParts). IsMadeTask c.args.kind c.args.seed c.args.size p) (sym c.in_ok-task.ensures.ok) c.in_ok-made.ensures) c.answer_task.result c.answer_task.ensures

pub returns-clause-none_certified : goal.returns-clause-none_certified
returns-clause-none_certified g c =
    clauses.says_none_certified c.args.kind c.args.seed c.args.size c.args.workers (arc_value c.in_ok-task.task)
    (subst (λ (p : TaskParts). IsMadeTask c.args.kind c.args.seed c.args.size p) (sym c.in_ok-task.ensures.ok) c.in_ok-made.ensures) c.answer_task.result c.answer_task.ensures

pub returns-clause-stopped : goal.returns-clause-stopped
returns-clause-stopped g c =
    clauses.says_stopped c.args.kind c.args.seed c.args.size c.args.workers (arc_value c.in_ok-task.task)
    (subst (λ (p : TaskParts). IsMadeTask c.args.kind c.args.seed c.args.size p) (sym c.in_ok-task.ensures.ok) c.in_ok-made.ensures) c.answer_task.result c.answer_task.ensures
