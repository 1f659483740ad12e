use Rattle.std.proofs.Common.{subst, sym, ap, ap₂, ◌∙◌, option_map}
use Rattle.std.specs.Arc.{arc_value}
use Rattle.pb_model.specs.declared.row.Estimate.{Estimate}
use Rattle.pb_pattern.specs.Patterns.{pattern_value}
use Rattle.pb_pattern.specs.Tables.{TableValue, IsOfTask as IsTableOf}
use Rattle.pb_estimate.specs.Choices.{Choice}
use Rattle.pb_estimate.specs.declared.estimator.Estimator.TheInside.{Inside}
use Rattle.pb_estimate.specs.Estimates.{estimate_by, greater}
use Rattle.pb_estimate.specs.Tables.{EstimatorValue, AreOfTask, IsOfTask}
use Rattle.pb_estimate.proofs.Choices.{keeps_plain, looks_up, is_plain, stays}
use Rattle.pb_estimate.proofs.estimator.Estimator.plain_or_pattern.Goals as goal
use Rattle.pb_estimate.proofs.estimator.Estimator.plain_or_pattern.Goals.{in-None, in-Some}

pub estimate-plain-requires-clause-task : goal.estimate-plain-requires-clause-task
estimate-plain-requires-clause-task c =
    subst (λ (e : EstimatorValue). AreOfTask e.plain c.args.task.now) (sym c.self.view_is)
    (keeps_plain c.args.self.now c.args.task.now c.requires.task.0 c.requires.task.1)

pub least-requires-clause-task : goal.least-requires-clause-task
least-requires-clause-task c =
    let is =
    looks_up c.args.self.now c.args.task.now c.requires.task.0 c.requires.task.1 (arc_value c.in-Some.table)
    (ap (λ (e : EstimatorValue). e.table) (sym c.self.view_is) ∙ ap (λ t. option_map arc_value t) c.in-Some.is) in
    subst (λ (t : TableValue). IsTableOf t c.args.task.now) (sym c.deref.ensures) is.0

pub returns-clause-estimate : goal.returns-clause-estimate
returns-clause-estimate c choice of_task = elim c.match-self.branch [
  | in-None w ↦
      let plain =
      is_plain c.args.self.now c.args.task.now choice of_task
      (ap (λ (e : EstimatorValue). e.table) (sym c.self.view_is) ∙ ap (λ t. option_map arc_value t) w.in-None.is) c.requires.none in
      w.result-is ∙ c.estimate-plain.ensures.estimate ∙ sym (ap (λ (x : Choice). estimate_by c.args.task.now x c.args.state.now) plain)
  | in-Some w ↦
      let is =
      looks_up c.args.self.now c.args.task.now choice of_task (arc_value w.in-Some.table)
      (ap (λ (e : EstimatorValue). e.table) (sym c.self.view_is) ∙ ap (λ t. option_map arc_value t) w.in-Some.is) in
      w.result-is ∙ w.greater.ensures
      ∙ ap₂ (λ (one other : Estimate). greater one other) c.estimate-plain.ensures.estimate
      (w.least.ensures ∙ ap (λ (t : TableValue). pattern_value c.args.task.now t.pattern c.args.state.now) w.deref.ensures)
      ∙ sym (ap (λ (x : Choice). estimate_by c.args.task.now x c.args.state.now) is.1)
]

pub returns-clause-task : goal.returns-clause-task
returns-clause-task c choice of_task =
    let viewed = subst (λ (e : EstimatorValue). IsOfTask e c.args.task.now choice) (sym c.self.view_is) of_task in
    let kept = stays _ c.args.task.now choice viewed c.estimate-plain.new.self c.estimate-plain.ensures.task in
    elim c.match-self.branch [
      | in-None w ↦ subst (λ (i : Inside). IsOfTask (record { plain = i.plain; table = option_map arc_value i.table; tables = option_map arc_value i.tables; index = i.index }) c.args.task.now choice) (sym w.self-inside-is) kept
      | in-Some w ↦ subst (λ (i : Inside). IsOfTask (record { plain = i.plain; table = option_map arc_value i.table; tables = option_map arc_value i.tables; index = i.index }) c.args.task.now choice) (sym w.self-inside-is) kept
    ]
