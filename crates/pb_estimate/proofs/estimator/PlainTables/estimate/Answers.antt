use Rattle.std.proofs.Common.{subst, sym, ◌∙◌}
use Rattle.pb_task.specs.declared.parts.TaskParts.{TaskParts}
use Rattle.pb_task.specs.declared.parts.TaskParts.TheVariants as parts
use Rattle.pb_estimate.specs.declared.estimator.PlainTables.{PlainTables}
use Rattle.pb_estimate.specs.declared.estimator.PlainTables.TheVariants as plain
use Rattle.pb_estimate.specs.Tables.{AreOfTask}
use Rattle.pb_estimate.proofs.estimator.PlainTables.estimate.Goals as goal
use Rattle.pb_estimate.proofs.estimator.PlainTables.estimate.Goals.{in-Grid-default, in-Tiles-Tiles, in-Strips-Strips}

pub distance-requires-in-Tiles-Tiles-clause-ways : goal.distance-requires-in-Tiles-Tiles-clause-ways
unfolding AreOfTask
distance-requires-in-Tiles-Tiles-clause-ways c =
    subst (λ (e : PlainTables). AreOfTask e (parts.Tiles c.in-Tiles-Tiles.parts)) c.in-Tiles-Tiles.is-1
    (subst (λ (task : TaskParts). AreOfTask c.args.self.now task) (sym c.parts.ensures.parts ∙ c.in-Tiles-Tiles.is-0) c.requires.task)

pub unreachable-requires : goal.unreachable-requires
unfolding AreOfTask
unreachable-requires c =
    subst (λ (e : PlainTables). AreOfTask e (parts.Tiles c.in-Tiles-Grid.field-0-0)) c.in-Tiles-Grid.is-1
    (subst (λ (task : TaskParts). AreOfTask c.args.self.now task) (sym c.parts.ensures.parts ∙ c.in-Tiles-Grid.is-0) c.requires.task)

pub unreachable-requires-in-Tiles-Strips : goal.unreachable-requires-in-Tiles-Strips
unfolding AreOfTask
unreachable-requires-in-Tiles-Strips c =
    subst (λ (e : PlainTables). AreOfTask e (parts.Tiles c.in-Tiles-Strips.field-0-0)) c.in-Tiles-Strips.is-1
    (subst (λ (task : TaskParts). AreOfTask c.args.self.now task) (sym c.parts.ensures.parts ∙ c.in-Tiles-Strips.is-0) c.requires.task)

pub estimate-requires-clause-counters : goal.estimate-requires-clause-counters
unfolding AreOfTask
estimate-requires-clause-counters c =
    subst (λ (e : PlainTables). AreOfTask e (parts.Strips c.in-Strips-Strips.parts)) c.in-Strips-Strips.is-1
    (subst (λ (task : TaskParts). AreOfTask c.args.self.now task) (sym c.parts.ensures.parts ∙ c.in-Strips-Strips.is-0) c.requires.task)

pub unreachable-requires-in-Strips-Grid : goal.unreachable-requires-in-Strips-Grid
unfolding AreOfTask
unreachable-requires-in-Strips-Grid c =
    subst (λ (e : PlainTables). AreOfTask e (parts.Strips c.in-Strips-Grid.field-0-0)) c.in-Strips-Grid.is-1
    (subst (λ (task : TaskParts). AreOfTask c.args.self.now task) (sym c.parts.ensures.parts ∙ c.in-Strips-Grid.is-0) c.requires.task)

pub unreachable-requires-in-Strips-Tiles : goal.unreachable-requires-in-Strips-Tiles
unfolding AreOfTask
unreachable-requires-in-Strips-Tiles c =
    subst (λ (e : PlainTables). AreOfTask e (parts.Strips c.in-Strips-Tiles.field-0-0)) c.in-Strips-Tiles.is-1
    (subst (λ (task : TaskParts). AreOfTask c.args.self.now task) (sym c.parts.ensures.parts ∙ c.in-Strips-Tiles.is-0) c.requires.task)

pub returns-clause-task : goal.returns-clause-task
unfolding AreOfTask
returns-clause-task c = elim c.match-parts.branch [
  | in-Grid-default w ↦ subst (λ (e : PlainTables). AreOfTask e c.args.task.now) (sym w.self-is) c.requires.task
  | in-Tiles-Tiles w ↦
      subst (λ (e : PlainTables). AreOfTask e c.args.task.now) (sym w.self-is)
      (subst (λ (e : PlainTables). AreOfTask e c.args.task.now) w.in-Tiles-Tiles.is-1 c.requires.task)
  | in-Strips-Strips w ↦
      let kept : AreOfTask (plain.Strips w.estimate.new.counters) (parts.Strips w.in-Strips-Strips.parts) = w.estimate.ensures.counters in
      subst (λ (e : PlainTables). AreOfTask e c.args.task.now) (sym w.self-is)
      (subst (λ (task : TaskParts). AreOfTask (plain.Strips w.estimate.new.counters) task) (sym w.in-Strips-Strips.is-0 ∙ c.parts.ensures.parts) kept)
]
