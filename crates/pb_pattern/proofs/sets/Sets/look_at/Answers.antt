use Rattle.pb_pattern.specs.Graphs.{sets_space}
use Rattle.pb_pattern.proofs.Looking.{looked_at, inside_step}
use Rattle.pb_pattern.proofs.Rules.{rules_are_proper, rules_below}
use Rattle.pb_pattern.proofs.sets.Sets.look_at.Goals as goal
use Rattle.std.proofs.Common.{◌^◌}

pub relax-requires-clause-step : goal.relax-requires-clause-step
relax-requires-clause-step c =
    inside_step (sets_space c.args.self.now) (2 ^ c.args.self.now.atoms) c.args.costs.now c.requires.table (rules_are_proper c.args.self.now c.requires.sets) (rules_below c.args.self.now c.requires.sets) c.args.image c.args.action
    c.step-step.result c.step-step.ensures

pub returns : goal.returns
returns c = looked_at (sets_space c.args.self.now) (2 ^ c.args.self.now.atoms) c.args.costs.now c.relax.new.costs c.relax.result c.requires.table c.args.image c.args.action c.step-step.result c.step-step.ensures c.requires.image c.relax.ensures.after c.relax.ensures.changed
