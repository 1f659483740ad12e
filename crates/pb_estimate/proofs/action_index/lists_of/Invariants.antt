use Rattle.pb_estimate.specs.Indexed.{AreListed}
use Rattle.pb_estimate.proofs.action_index.lists_of.Given as goal

abbrev pub invariant-loop-action : goal.invariant-loop-action
invariant-loop-action l = AreListed l.strips l.action l.lists
