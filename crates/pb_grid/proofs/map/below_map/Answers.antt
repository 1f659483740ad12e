use Rattle.std.proofs.Common.{sym, arith}
use Rattle.pb_grid.specs.Lines.{lines_of}
use Rattle.pb_grid.specs.Reading.{below_map}
use Rattle.pb_grid.proofs.Rows.{below_next, below_fault, below_end}
use Rattle.pb_grid.proofs.map.below_map.Goals as goal

pub returns-then-not-is_blank_line : goal.returns-then-not-is_blank_line
returns-then-not-is_blank_line c = λ some.
    below_fault c.loop-below.line c.in-Some.below.now (lines_of c.loop-below.rest.now) (lines_of c.in-Some.behind.now) (below_map c.args.first (lines_of c.args.text.now)) c.in-Some.ensures.some (sym c.if-not-is_blank_line.ensures) c.loop-below.invariant.so_far

pub loop-below-preserved : goal.loop-below-preserved
loop-below-preserved c = record {
  so_far = below_next c.loop-below.line c.in-Some.below.now (lines_of c.loop-below.rest.now) (lines_of c.in-Some.behind.now) (below_map c.args.first (lines_of c.args.text.now)) c.in-Some.ensures.some (sym c.if-not-is_blank_line.ensures) c.loop-below.invariant.so_far;
  few = omega (arith, c.loop-below.invariant.few, c.in-Some.ensures.shorter);
}

pub returns : goal.returns
returns c = below_end c.loop-below.line c.loop-below.rest.now (below_map c.args.first (lines_of c.args.text.now)) c.in_default.ensures.none c.loop-below.invariant.so_far
