use Rattle.std.proofs.Common.{◌≡◌, ◌++◌, map, ◌-◌, vec_len}
use Rattle.pb_make.specs.Draws.{draws}
use Rattle.pb_make.specs.Maps.{cell}
use Rattle.pb_make.proofs.maps.draw_cells.Given as goal

abbrev pub invariant-loop-drawn : goal.invariant-loop-drawn
invariant-loop-drawn l = record {
  count : vec_len l.cells ≡ l._drawn;
  cells : l.cells.items ++ map cell (draws (l.count - l._drawn) l.generator.number) ≡ map cell (draws l.count l.seed);
}
