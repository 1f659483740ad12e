use Rattle.std.proofs.Common.{◌==◌, not, sym}
use Rattle.std.proofs.lemmas.Bool.{not_from_false, ne_eqb}
use Rattle.pb_tables.specs.Tables.{value_at}
use Rattle.pb_tables.proofs.Searches.{found_any}
use Rattle.pb_tables.proofs.closed.has_value.Goals as goal

pub returns-then-values-place-ne0 : goal.returns-then-values-place-ne0
returns-then-values-place-ne0 c =
    sym (found_any c.args.sums (λ sum. not (value_at c.args.sums c.args.values.now sum c.args.place == 0)) c.loop-sum.sum c.loop-sum-test.true
    (not_from_false (value_at c.args.sums c.args.values.now c.loop-sum.sum c.args.place == 0) (ne_eqb (value_at c.args.sums c.args.values.now c.loop-sum.sum c.args.place) 0 c.if-values-place-ne0.true)))
