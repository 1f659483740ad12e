use Rattle.std.proofs.Common.{◌≡◌, true, sym, ap, ◌∙◌, subst, rules}
use Rattle.std.specs.Arc.{arc_value}
use Rattle.pb_task.specs.declared.parts.TaskParts.{TaskParts}
use Rattle.pb_task.specs.Parts.{space_of, IsTask}
use Rattle.pb_task.proofs.Callers.{tasks_are_proper}
use Rattle.pb_estimate.specs.Tables.{IsOfTask}
use Rattle.pb_search.proofs.opening.opening.Goals as goal

pub estimate-estimate-requires-clause-state : goal.estimate-estimate-requires-clause-state
estimate-estimate-requires-clause-state c =
    let task : TaskParts = arc_value c.args.task.now in
    let is_task : IsTask task = subst IsTask c.deref.ensures c.initial-start.ensures.lawful in
    let start : c.initial-start.result ≡ (space_of task).start = c.initial-start.ensures.start ∙ ap (λ (p : TaskParts). (space_of p).start) c.deref.ensures in
    subst (λ (p : TaskParts). (space_of p).is_state c.initial-start.result ≡ true) (sym c.deref-3.ensures)
    (subst (λ n. (space_of task).is_state n ≡ true) (sym start) (tasks_are_proper task is_task).0.start)

pub estimate-estimate-requires-clause-task : goal.estimate-estimate-requires-clause-task
estimate-estimate-requires-clause-task c = (
  c.args.choice,
  subst (λ (p : TaskParts). IsOfTask c.in_ok-estimator.estimator p c.args.choice) (c.deref-2.ensures ∙ sym c.deref-3.ensures) c.in_ok-estimator.ensures,
)

pub returns : goal.returns
returns c =
    let task : arc_value c.in_ok-shared_task.shared_task ≡ arc_value c.args.task.now = search rules in
    let abstraction : arc_value c.in_ok-shared_abstraction.shared_abstraction ≡ arc_value c.args.abstraction.now = search rules in
    record {
      task = c.in_ok-graph.ensures.task ∙ task;
      graph_is = c.in_ok-graph.ensures.abstraction ∙ abstraction;
      choice_is = c.in_ok-graph.ensures.choice;
      settings_are = c.in_ok-graph.ensures.settings;
      counts = c.in_ok-graph.ensures.counts;
      past = c.in_ok-graph.ensures.past;
      begin = c.in_ok-graph.ensures.begin;
      opening = c.in_ok-graph.ensures.opening;
    }
