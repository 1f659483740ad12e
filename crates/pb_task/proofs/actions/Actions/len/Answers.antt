use Rattle.std.proofs.Common.{arith}
use Rattle.pb_task.proofs.FlatActions.{many_labels}
use Rattle.pb_task.proofs.actions.Actions.len.Goals as goal

pub returns : goal.returns
returns c = omega (arith, many_labels c.self.inside.labels.items c.self.inside.needs.sets c.self.inside.adds.sets c.self.inside.deletes.sets c.args.self.now c.self.view_is)
