use Rattle.std.proofs.Common.{◌≡◌, ◌≤◌, vec_capacity, vec_len}
use Rattle.pb_model.specs.Space.{steps_below}
use Rattle.pb_task.specs.Tiles.{tiles_space}
use Rattle.pb_task.proofs.tiles.successors.Given as goal

abbrev pub invariant-loop-action : goal.invariant-loop-action
invariant-loop-action l = record {
  successors : l.out.items ≡ steps_below (tiles_space l.tiles) l.from l.action;
  few : vec_len l.out ≤ l.action;
  room : 4 ≤ vec_capacity l.out;
  kept : vec_capacity l.fn.out ≤ vec_capacity l.out;
}
