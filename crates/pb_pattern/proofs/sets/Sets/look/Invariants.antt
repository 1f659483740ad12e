use Rattle.std.proofs.Common.{◌^◌}
use Rattle.pb_pattern.specs.Costs.{Looks, IsByBelow}
use Rattle.pb_pattern.specs.Graphs.{sets_space}
use Rattle.pb_pattern.proofs.sets.Sets.look.Given as goal

abbrev pub invariant-loop-action : goal.invariant-loop-action
invariant-loop-action l = Looks (sets_space l.self) (2 ^ l.self.atoms) (IsByBelow l.action) l.initial.costs l.costs l.changed
