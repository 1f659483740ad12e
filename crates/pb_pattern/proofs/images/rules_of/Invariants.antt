use Rattle.std.proofs.Common.{◌≡◌, map, take}
use Rattle.pb_pattern.specs.Graphs.{rule_of}
use Rattle.pb_pattern.proofs.images.rules_of.Given as goal

abbrev pub invariant-loop-at : goal.invariant-loop-at
invariant-loop-at l = l.rules.items ≡ map (rule_of l.tracked) (take l.at l.actions)
