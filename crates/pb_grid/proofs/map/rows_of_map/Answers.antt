use Rattle.std.proofs.Common.{◌≡◌, [], ◌∙◌, ◌+◌, ◌-◌, ◌++◌, ap, length, take, map, true}
use Rattle.std.specs.List.{concat}
use Rattle.std.specs.Vec.{vec_len}
use Rattle.std.proofs.lemmas.Result.{err_from_is_err_and}
use Rattle.pb_grid.specs.Lines.{lines_of}
use Rattle.pb_grid.specs.Reading.{rows_of_map, is_swamp_byte}
use Rattle.pb_grid.proofs.Parting.{no_lines}
use Rattle.pb_grid.proofs.Rows.{row_read, row_fails, row_missing, rows_done, one_line_more}
use Rattle.pb_grid.proofs.Swamps.{row_added, row_counted, swamp_read}
use Rattle.pb_grid.proofs.map.rows_of_map.Goals as goal

pub returns-in_default-clause-gives : goal.returns-in_default-clause-gives
returns-in_default-clause-gives c = λ some.
    let number : c.from-line.result ≡ c.loop-y.y = c.from-line.ensures in
    let none : lines_of c.loop-y.rest.now ≡ [] = ap lines_of c.in_default.ensures.none ∙ no_lines in
    rw number (row_missing c.loop-y.cells.items c.args.width c.args.height c.loop-y.y (lines_of c.loop-y.rest.now) (rows_of_map c.args.width c.args.height 5 (lines_of c.args.text.now)) c.loop-y.invariant.so_far c.loop-y-test.true none)

pub returns-in_err-add_row-clause-gives : goal.returns-in_err-add_row-clause-gives
returns-in_err-add_row-clause-gives c =
    let p = err_from_is_err_and c.from_residual.result c.from_residual.ensures.1 in
    let number : c.from-line.result ≡ c.loop-y.y = c.from-line.ensures in
    rw (p.1, p.2) (row_fails c.loop-y.cells.items c.args.width c.args.height c.loop-y.y (lines_of c.loop-y.rest.now) (rows_of_map c.args.width c.args.height 5 (lines_of c.args.text.now)) c.loop-y.invariant.so_far c.in_err-add_row.field-0.0 c.in-Some.row.now (lines_of c.in-Some.below.now) c.loop-y-test.true c.in-Some.ensures.some (rw number at c.in_err-add_row.ensures.gives))

pub loop-y-preserved : goal.loop-y-preserved
loop-y-preserved c =
    let number : c.from-line.result ≡ c.loop-y.y = c.from-line.ensures in
    record {
      so_far = row_read c.loop-y.cells.items c.args.width c.args.height c.loop-y.y (lines_of c.loop-y.rest.now) (rows_of_map c.args.width c.args.height 5 (lines_of c.args.text.now)) c.loop-y.invariant.so_far c.add_row.new.cells.items c.in-Some.row.now (lines_of c.in-Some.below.now) c.loop-y-test.true c.in-Some.ensures.some (rw number at c.in_ok-add_row.ensures.gives);
      marked = λ asked.
          let added : c.add_marks.new.marks.items ≡ c.loop-y.marks.items ++ map (is_swamp_byte true) c.in-Some.row.now = c.in_ok-add_marks.ensures asked in
          rw added (row_added (is_swamp_byte true) c.loop-y.marks.items (map (is_swamp_byte true) (concat (take c.args.height (lines_of c.args.text.now)))) c.args.height c.loop-y.y (lines_of c.loop-y.rest.now) (lines_of c.in-Some.below.now) c.in-Some.row.now c.loop-y-test.true c.in-Some.ensures.some (c.loop-y.invariant.marked asked));
      count = row_counted (vec_len c.loop-y.cells) (vec_len c.add_row.new.cells) (length (concat (take c.args.height (lines_of c.args.text.now)))) c.args.height c.loop-y.y (lines_of c.loop-y.rest.now) (lines_of c.in-Some.below.now) c.in-Some.row.now c.loop-y-test.true c.in-Some.ensures.some c.in_ok-add_row.ensures.len c.loop-y.invariant.count;
      behind = one_line_more c.loop-y.y c.in-Some.row.now (lines_of c.args.text.now) (lines_of c.loop-y.rest.now) (lines_of c.in-Some.below.now) c.loop-y.invariant.behind c.in-Some.ensures.some;
    }

pub returns-clause-gives : goal.returns-clause-gives
returns-clause-gives c = rows_done c.loop-y.cells.items c.args.width c.args.height c.loop-y.y (lines_of c.loop-y.rest.now) (rows_of_map c.args.width c.args.height 5 (lines_of c.args.text.now)) c.loop-y.invariant.so_far c.loop-y-test.false

pub returns-clause-swamp : goal.returns-clause-swamp
returns-clause-swamp c =
    swamp_read c.args.swamp c.swamp_among-swamp.result c.loop-y.marks.items c.len.result c.args.height c.loop-y.y (lines_of c.loop-y.rest.now) (concat (take c.args.height (lines_of c.args.text.now))) c.loop-y-test.false c.swamp_among-swamp.ensures.marks c.swamp_among-swamp.ensures.none
    c.loop-y.invariant.marked (ap (λ n. n + length (concat (take (c.args.height - c.loop-y.y) (lines_of c.loop-y.rest.now)))) c.len.ensures ∙ c.loop-y.invariant.count)
