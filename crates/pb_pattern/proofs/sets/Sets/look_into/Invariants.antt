use Rattle.std.proofs.Common.{◌^◌}
use Rattle.pb_pattern.specs.Costs.{IsTable}
use Rattle.pb_pattern.specs.Graphs.{sets_space}
use Rattle.pb_pattern.proofs.sets.Sets.look_into.Given as goal

abbrev pub invariant-loop-action : goal.invariant-loop-action
invariant-loop-action l = IsTable (sets_space l.self) (2 ^ l.self.atoms) l.costs
