use Rattle.std.proofs.Common.{◌≤◌, take, length}
use Rattle.pb_estimate.specs.Merged.{StandFor}
use Rattle.pb_estimate.proofs.merging.merged_actions.Given as goal

abbrev pub invariant-loop-at : goal.invariant-loop-at
invariant-loop-at l = record {
  few : length l.merging.actions.items ≤ l.at;
  stand : StandFor l.strips.atoms (take l.at l.strips.actions) l.merging.actions.items;
}
