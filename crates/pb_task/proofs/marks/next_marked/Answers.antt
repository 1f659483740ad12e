use Rattle.std.proofs.Common.{◌+◌, ◌*◌, ◌/◌, ◌%◌, ◌^◌, get_or, refl, arith}
use Rattle.pb_task.proofs.Marked.{least_is_marked, none_before_least, none_in_word, none_marked}
use Rattle.pb_task.proofs.marks.next_marked.Goals as goal

pub returns-then-word-ne0-clause-none : goal.returns-then-word-ne0-clause-none
returns-then-word-ne0-clause-none c =
    none_marked c.args.marks.now c.args.from c.loop-at.at c.min.result c.loop-at.invariant.none
    (none_before_least c.args.marks.now c.loop-at.at (c.type_inv.marks (c.loop-at.at / 64)).fits c.if-word-ne0.true c.args.count c.min.result c.min.ensures)

pub returns-then-word-ne0-clause-marked : goal.returns-then-word-ne0-clause-marked
returns-then-word-ne0-clause-marked c =
    least_is_marked c.args.marks.now c.loop-at.at (c.type_inv.marks (c.loop-at.at / 64)).fits c.if-word-ne0.true c.args.count c.min.result c.min.ensures

pub loop-at-preserved : goal.loop-at-preserved
loop-at-preserved c = record {
  from = omega (arith, c.loop-at.invariant.from);
  none = none_marked c.args.marks.now c.args.from c.loop-at.at ((c.loop-at.at / 64 + 1) * 64) c.loop-at.invariant.none
      (none_in_word c.args.marks.now c.loop-at.at (get_or c.args.marks.now (c.loop-at.at / 64) 0 / 2 ^ (c.loop-at.at % 64)) refl c.if-word-ne0.false);
}
