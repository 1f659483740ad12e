use Rattle.std.proofs.Common.{◌≡◌, drop}
use Rattle.pb_task.specs.Tiles.{are_distinct}
use Rattle.pb_task.proofs.tiles.are_distinct.Given as goal

abbrev pub invariant-loop-at : goal.invariant-loop-at
invariant-loop-at l = are_distinct (drop l.at l.numbers) ≡ are_distinct l.numbers
