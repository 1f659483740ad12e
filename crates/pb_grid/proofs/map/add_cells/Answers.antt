use Rattle.std.proofs.Common.{◌≡◌, ◌++◌, ◌∷◌, [], arith}
use Rattle.pb_grid.specs.Reading.{added_to, cells_of}
use Rattle.pb_grid.proofs.Rows.{cell_read, cell_unknown, cells_done}
use Rattle.pb_grid.proofs.map.add_cells.Goals as goal

pub returns-in_default-clause-gives : goal.returns-in_default-clause-gives
returns-in_default-clause-gives c = λ some.
    rw c.loop-byte.invariant.column (cell_unknown c.loop-byte.cells.items c.args.line c.loop-byte.byte-index c.args.row.now (added_to c.args.cells.now.items (cells_of c.args.line 1 c.args.row.now)) c.loop-byte.invariant.so_far c.loop-byte-test.true c.in_default.ensures)

pub loop-byte-preserved : goal.loop-byte-preserved
loop-byte-preserved c =
    let pushed : c.push_reserved.new.self.items ≡ c.loop-byte.cells.items ++ c.in-Some.class ∷ [] = c.push_reserved.ensures.items in
    rw pushed (record {
      column = omega (arith, c.loop-byte.invariant.column);
      room = omega (arith, c.push_reserved.ensures.capacity, c.loop-byte.invariant.room);
      count = omega (arith, c.push_reserved.ensures.len, c.loop-byte.invariant.count);
      so_far = cell_read c.loop-byte.cells.items c.args.line c.loop-byte.byte-index c.args.row.now (added_to c.args.cells.now.items (cells_of c.args.line 1 c.args.row.now)) c.loop-byte.invariant.so_far c.in-Some.class c.loop-byte-test.true c.in-Some.ensures;
    })

pub returns-clause-gives : goal.returns-clause-gives
returns-clause-gives c = cells_done c.loop-byte.cells.items c.args.line c.loop-byte.byte-index c.args.row.now (added_to c.args.cells.now.items (cells_of c.args.line 1 c.args.row.now)) c.loop-byte.invariant.so_far c.loop-byte-test.false
