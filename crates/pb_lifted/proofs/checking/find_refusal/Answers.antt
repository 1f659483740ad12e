use Rattle.std.proofs.Common.{sym, ◌∙◌}
use Rattle.pb_lifted.specs.Refusals.{causes_in_order}
use Rattle.pb_lifted.proofs.InOrder.{told, passed}
use Rattle.pb_lifted.proofs.checking.find_refusal.Goals as goal

pub returns-in-Some : goal.returns-in-Some
returns-in-Some c =
    told causes_in_order c.loop-cause.cause-index _ c.args.domain.now c.args.problem.now c.in-Some.place _ c.loop-cause-test.true (sym c.first_place.ensures ∙ c.in-Some.is) c.loop-cause.invariant

pub loop-cause-preserved : goal.loop-cause-preserved
loop-cause-preserved c =
    passed causes_in_order c.loop-cause.cause-index _ c.args.domain.now c.args.problem.now _ c.loop-cause-test.true (sym c.first_place.ensures ∙ c.in_default.is) c.loop-cause.invariant
