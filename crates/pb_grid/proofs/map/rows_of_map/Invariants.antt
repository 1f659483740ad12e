use Rattle.std.proofs.Common.{◌≡◌, ◌+◌, ◌-◌, ◌++◌, length, take, drop, map, true}
use Rattle.std.specs.List.{concat}
use Rattle.std.specs.Vec.{vec_len}
use Rattle.pb_grid.specs.Lines.{lines_of}
use Rattle.pb_grid.specs.Reading.{added_to, rows_of_map, is_swamp_byte}
use Rattle.pb_grid.proofs.map.rows_of_map.Given as goal

abbrev pub invariant-loop-y : goal.invariant-loop-y
invariant-loop-y l = record {
  so_far : added_to l.cells.items (rows_of_map l.width (l.height - l.y) (5 + l.y) (lines_of l.rest)) ≡ rows_of_map l.width l.height 5 (lines_of l.text);
  marked : l.swamp ≡ true → l.marks.items ++ map (is_swamp_byte true) (concat (take (l.height - l.y) (lines_of l.rest))) ≡ map (is_swamp_byte true) (concat (take l.height (lines_of l.text)));
  count : vec_len l.cells + length (concat (take (l.height - l.y) (lines_of l.rest))) ≡ length (concat (take l.height (lines_of l.text)));
  behind : lines_of l.rest ≡ drop l.y (lines_of l.text);
}
