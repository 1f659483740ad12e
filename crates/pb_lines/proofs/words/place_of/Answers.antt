use Rattle.std.proofs.Common.{arith}
use Rattle.pb_lines.proofs.Places.{found, further, at_end}
use Rattle.pb_lines.proofs.words.place_of.Goals as goal

pub returns-then-b-byte-clause-place : goal.returns-then-b-byte-clause-place
returns-then-b-byte-clause-place c =
    found c.args.byte c.loop-b.b-index c.loop-b.place c.args.text.now c.loop-b.invariant.place
    c.loop-b-test.true c.if-b-byte.true c.loop-b.invariant.so_far

pub loop-b-preserved : goal.loop-b-preserved
loop-b-preserved c = record {
  place = omega (arith, c.loop-b.invariant.place);
  so_far =
      further c.args.byte c.loop-b.b-index c.args.text.now c.loop-b-test.true c.if-b-byte.false
      c.loop-b.invariant.so_far;
}

pub returns-clause-place : goal.returns-clause-place
returns-clause-place c =
    at_end c.args.byte c.loop-b.b-index c.loop-b.place c.args.text.now c.loop-b.invariant.place
    c.loop-b-test.false c.loop-b.invariant.so_far
