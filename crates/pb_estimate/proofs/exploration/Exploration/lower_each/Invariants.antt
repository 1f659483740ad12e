use Rattle.std.proofs.Common.{◌≡◌, length, take}
use Rattle.pb_estimate.specs.Exploring.{AreLowered, HaveSameFinals, IsExploration}
use Rattle.pb_estimate.proofs.exploration.Exploration.lower_each.Given as goal

abbrev pub invariant-loop-atom : goal.invariant-loop-atom
invariant-loop-atom l = record {
  is : IsExploration l.self;
  long : length l.self.costs.items ≡ length l.initial.self.costs.items;
  lowered : AreLowered (take l.atom-index l.atoms) l.cost l.initial.self.costs.items l.self.costs.items;
  finals : HaveSameFinals l.initial.self.costs.items l.self.costs.items;
}
