use Rattle.std.proofs.Common.{◌^◌}
use Rattle.pb_pattern.specs.Costs.{Looks, IsByOneBelow}
use Rattle.pb_pattern.specs.Graphs.{sets_space}
use Rattle.pb_pattern.proofs.sets.Sets.look_by.Given as goal

abbrev pub invariant-loop-image : goal.invariant-loop-image
invariant-loop-image l = Looks (sets_space l.self) (2 ^ l.self.atoms) (IsByOneBelow l.action l.image) l.initial.costs l.costs l.changed
