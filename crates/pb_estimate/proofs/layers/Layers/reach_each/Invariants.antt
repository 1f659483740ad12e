use Rattle.std.proofs.Common.{take}
use Rattle.pb_estimate.specs.Layers.{AreAdded, AreLayers, KeepPlaces}
use Rattle.pb_estimate.proofs.layers.Layers.reach_each.Given as goal

abbrev pub invariant-loop-atom : goal.invariant-loop-atom
invariant-loop-atom l = record {
  is : AreLayers l.goal l.self;
  kept : KeepPlaces l.initial.self l.self;
  added : AreAdded (take l.atom-index l.atoms) l.initial.self l.self;
}
