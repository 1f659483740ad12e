use Rattle.std.proofs.Common.{◌≡◌, ◌+◌, ◌≤◌, ◌++◌, drop, length, map, true}
use Rattle.std.specs.Vec.{vec_len, vec_capacity}
use Rattle.pb_grid.specs.Reading.{is_swamp_byte}
use Rattle.pb_grid.proofs.map.add_swamp.Given as goal

abbrev pub invariant-loop-byte : goal.invariant-loop-byte
invariant-loop-byte l = record {
  room : vec_len l.fn.marks + length l.row ≤ vec_capacity l.marks;
  count : vec_len l.marks ≡ vec_len l.fn.marks + l.byte-index;
  marked : l.marks.items ++ map (is_swamp_byte true) (drop l.byte-index l.row) ≡ l.fn.marks.items ++ map (is_swamp_byte true) l.row;
}
