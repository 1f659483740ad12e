use Rattle.std.proofs.Common.{arith, slice_index_or}
use Rattle.std.proofs.lemmas.Option.{slice_get-get_or}
use Rattle.pb_owners.proofs.Loops.{used_fits, used_next}
use Rattle.pb_owners.proofs.drawing.used.Goals as goal

pub overflow_add-used : goal.overflow_add-used
overflow_add-used c =
    let seats = c.args.seats.now in
    let is = slice_get-get_or seats c.loop-at.at c.index-seats-at.result (let t = c.loop-at-test.true in omega arith) in
    let h = used_fits seats c.loop-at.at c.loop-at.used (slice_index_or seats c.loop-at.at c.index-seats-at.result) c.requires.few c.requires.low is c.loop-at.invariant in
    omega arith

pub loop-at-preserved : goal.loop-at-preserved
loop-at-preserved c =
    let seats = c.args.seats.now in
    let is = slice_get-get_or seats c.loop-at.at c.index-seats-at.result (let t = c.loop-at-test.true in omega arith) in
    used_next seats c.loop-at.at c.loop-at.used (slice_index_or seats c.loop-at.at c.index-seats-at.result) is c.loop-at.invariant
