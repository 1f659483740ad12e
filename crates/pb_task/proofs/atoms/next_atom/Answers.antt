use Rattle.std.proofs.Common.{◌+◌, ◌<◌, ◌≤◌, sym, arith, ◌∙◌}
use Rattle.std.specs.Int.{trailing_zeros, w64}
use Rattle.pb_task.proofs.NextAtoms.{positive, first_within, first_is_in, none_before_first, none_before, none_in_field}
use Rattle.pb_task.proofs.atoms.next_atom.Goals as goal

pub returns-then-word-ne0-clause-most : goal.returns-then-word-ne0-clause-most
returns-then-word-ne0-clause-most c =
    let within : trailing_zeros w64 c.bits-word.result < c.min-len.result =
    first_within c.args.set.now c.loop-at.at c.min-len.result c.bits-word.result c.bits-word.ensures (positive c.bits-word.result c.if-word-ne0.true) c.bits-word.type_inv in
    let end : c.loop-at.at + trailing_zeros w64 c.bits-word.result ≤ c.args.count = omega (arith, within, c.min-len.ensures, c.loop-at-test.true) in
    end

pub returns-then-word-ne0-clause-none : goal.returns-then-word-ne0-clause-none
returns-then-word-ne0-clause-none c =
    none_before c.args.set.now c.args.from c.loop-at.at (c.loop-at.at + trailing_zeros w64 c.bits-word.result) c.loop-at.invariant.none
    (none_before_first c.args.set.now c.loop-at.at c.min-len.result c.bits-word.result c.bits-word.ensures (positive c.bits-word.result c.if-word-ne0.true) c.bits-word.type_inv)

pub returns-then-word-ne0-clause-has : goal.returns-then-word-ne0-clause-has
returns-then-word-ne0-clause-has c = λ less.
    first_is_in c.args.set.now c.loop-at.at c.min-len.result c.bits-word.result c.bits-word.ensures (positive c.bits-word.result c.if-word-ne0.true) c.bits-word.type_inv

pub loop-at-preserved : goal.loop-at-preserved
loop-at-preserved c = record {
  from = omega (arith, c.loop-at.invariant.from);
  most = omega (arith, c.min-len.ensures, c.loop-at-test.true);
  none = none_before c.args.set.now c.args.from c.loop-at.at (c.loop-at.at + c.min-len.result) c.loop-at.invariant.none
      (none_in_field c.args.set.now c.loop-at.at c.min-len.result (sym c.bits-word.ensures ∙ c.if-word-ne0.false));
}
