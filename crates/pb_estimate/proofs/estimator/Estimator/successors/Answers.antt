use Rattle.std.proofs.Common.{Option, Some, subst, sym, ap, ◌∙◌, option_map}
use Rattle.std.specs.Arc.{arc_value}
use Rattle.pb_task.specs.declared.parts.TaskParts.{TaskParts}
use Rattle.pb_task.specs.declared.parts.TaskParts.TheVariants.{Strips}
use Rattle.pb_estimate.specs.declared.action_index.ActionIndex.{ActionIndex}
use Rattle.pb_estimate.specs.declared.estimator.Estimator.TheInside.{Inside}
use Rattle.pb_estimate.specs.Indexed.{HasIndex}
use Rattle.pb_estimate.specs.Tables.{EstimatorValue, IsOfTask}
use Rattle.pb_estimate.proofs.Choices.{keeps_index, stays_indexed}
use Rattle.pb_estimate.proofs.estimator.Estimator.successors.Goals as goal
use Rattle.pb_estimate.proofs.estimator.Estimator.successors.Goals.{in-Strips-Some, in_default, in_default-via-in-Strips+in_default, in_default-via-in_default}

pub successors-requires-clause-index : goal.successors-requires-clause-index
successors-requires-clause-index c =
    let kept : HasIndex c.args.task.now c.args.self.now.index = keeps_index c.args.self.now c.args.task.now c.requires.task.0 c.requires.task.1 in
    subst (λ (index : Option ActionIndex). HasIndex (Strips c.in-Strips-Some.parts) index) (ap (λ (e : EstimatorValue). e.index) (sym c.self.view_is) ∙ c.in-Strips-Some.is-1)
    (subst (λ (task : TaskParts). HasIndex task c.args.self.now.index) (sym c.parts.ensures.parts ∙ c.in-Strips-Some.is-0) kept)

pub returns-clause-task : goal.returns-clause-task
returns-clause-task c choice of_task =
    let viewed = subst (λ (e : EstimatorValue). IsOfTask e c.args.task.now choice) (sym c.self.view_is) of_task in
    elim c.match-parts.branch [
      | in-Strips-Some w ↦
          let has : HasIndex c.args.task.now (Some w.successors.new.self) =
          subst (λ (task : TaskParts). HasIndex task (Some w.successors.new.self)) (sym w.in-Strips-Some.is-0 ∙ c.parts.ensures.parts) w.successors.ensures.index in
          subst (λ (i : Inside). IsOfTask (record { plain = i.plain; table = option_map arc_value i.table; tables = option_map arc_value i.tables; index = i.index }) c.args.task.now choice) (sym w.self-inside-is)
          (stays_indexed _ c.args.task.now choice viewed (Some w.successors.new.self) has)
      | in_default w ↦
          elim w.in_default.branch [
            | in_default-via-in-Strips+in_default w' ↦
                subst (λ (i : Inside). IsOfTask (record { plain = i.plain; table = option_map arc_value i.table; tables = option_map arc_value i.tables; index = i.index }) c.args.task.now choice)
                (sym (w.self-inside-is ∙ w'.self-inside-is)) viewed
            | in_default-via-in_default w' ↦
                subst (λ (i : Inside). IsOfTask (record { plain = i.plain; table = option_map arc_value i.table; tables = option_map arc_value i.tables; index = i.index }) c.args.task.now choice)
                (sym (w.self-inside-is ∙ w'.self-inside-is)) viewed
          ]
    ]
