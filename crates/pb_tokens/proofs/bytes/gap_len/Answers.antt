use Rattle.std.proofs.Common.{arith, sym, ◌∙◌}
use Rattle.pb_tokens.proofs.Runs.{gap_at_end, gap_goes_on, gap_ends}
use Rattle.pb_tokens.proofs.bytes.gap_len.Goals as goal

pub returns-in_default-clause-gap : goal.returns-in_default-clause-gap
returns-in_default-clause-gap c =
    omega (arith, c.loop-byte.invariant.count, c.loop-byte.invariant.gap, gap_ends c.loop-byte.comment c.args.text.now c.loop-byte.byte-index c.loop-byte-test.true (sym c.gap_next.ensures ∙ c.in_default.is))

pub loop-byte-preserved : goal.loop-byte-preserved
loop-byte-preserved c = record {
  count = omega (arith, c.loop-byte.invariant.count);
  gap = omega (arith, c.loop-byte.invariant.gap, gap_goes_on c.loop-byte.comment c.in-Some.next c.args.text.now c.loop-byte.byte-index c.loop-byte-test.true (sym c.gap_next.ensures ∙ c.in-Some.is));
}

pub returns-clause-gap : goal.returns-clause-gap
returns-clause-gap c = omega (arith, c.loop-byte.invariant.count, c.loop-byte.invariant.gap, gap_at_end c.loop-byte.comment c.args.text.now c.loop-byte.byte-index c.loop-byte-test.false)
