use Rattle.std.proofs.Common.{◌≡◌, ◌++◌, ◌∷◌, [], map, get_or, true, arith}
use Rattle.pb_grid.specs.Reading.{is_swamp_byte}
use Rattle.pb_grid.proofs.Swamps.{mark_added, marks_done}
use Rattle.pb_grid.proofs.map.add_swamp.Goals as goal

pub loop-byte-preserved : goal.loop-byte-preserved
loop-byte-preserved c =
    let marked : c.push_reserved.new.self.items ≡ c.loop-byte.marks.items ++ is_swamp_byte true (get_or c.args.row.now c.loop-byte.byte-index 0) ∷ [] = c.push_reserved.ensures.items in
    rw marked (record {
      room = omega (arith, c.push_reserved.ensures.capacity, c.loop-byte.invariant.room);
      count = omega (arith, c.push_reserved.ensures.len, c.loop-byte.invariant.count);
      marked = mark_added (is_swamp_byte true) c.loop-byte.marks.items (c.args.marks.now.items ++ map (is_swamp_byte true) c.args.row.now) c.args.row.now c.loop-byte.byte-index c.loop-byte-test.true c.loop-byte.invariant.marked;
    })

pub returns : goal.returns
returns c = marks_done (is_swamp_byte true) c.loop-byte.marks.items (c.args.marks.now.items ++ map (is_swamp_byte true) c.args.row.now) c.args.row.now c.loop-byte.byte-index c.loop-byte-test.false c.loop-byte.invariant.marked
