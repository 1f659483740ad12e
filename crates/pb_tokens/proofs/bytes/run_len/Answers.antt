use Rattle.std.proofs.Common.{arith, sym, ◌∙◌}
use Rattle.pb_tokens.proofs.Runs.{run_at_end, run_goes_on, run_ends}
use Rattle.pb_tokens.proofs.bytes.run_len.Goals as goal

pub returns-then-not-goes_on_word-clause-run : goal.returns-then-not-goes_on_word-clause-run
returns-then-not-goes_on_word-clause-run c =
    omega (arith, c.loop-byte.invariant.count, c.loop-byte.invariant.run, run_ends c.args.text.now c.loop-byte.byte-index c.loop-byte-test.true (sym c.goes_on_word.ensures ∙ c.if-not-goes_on_word.true))

pub loop-byte-preserved : goal.loop-byte-preserved
loop-byte-preserved c = record {
  count = omega (arith, c.loop-byte.invariant.count);
  run = omega (arith, c.loop-byte.invariant.run, run_goes_on c.args.text.now c.loop-byte.byte-index c.loop-byte-test.true (sym c.goes_on_word.ensures ∙ c.if-not-goes_on_word.false));
}

pub returns-clause-run : goal.returns-clause-run
returns-clause-run c = omega (arith, c.loop-byte.invariant.count, c.loop-byte.invariant.run, run_at_end c.args.text.now c.loop-byte.byte-index c.loop-byte-test.false)
