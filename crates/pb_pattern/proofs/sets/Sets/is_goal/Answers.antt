use Rattle.pb_pattern.proofs.Rules.{goal_test}
use Rattle.pb_pattern.proofs.sets.Sets.is_goal.Goals as goal

pub returns : goal.returns
returns c = goal_test c.args.self.now c.requires.sets c.args.image
