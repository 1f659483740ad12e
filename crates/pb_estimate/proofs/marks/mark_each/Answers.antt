use Rattle.std.proofs.Common.{◌≡◌, ℕ, true, get_or, take, List, subst, arith, All}
use Rattle.std.proofs.lemmas.List.{take_all}
use Rattle.std.proofs.lemmas.List.Elements.{All-more, All-weaker}
use Rattle.pb_task.specs.Marks.{is_marked}
use Rattle.pb_estimate.proofs.Marked.{marked_too}
use Rattle.pb_estimate.proofs.marks.mark_each.Goals as goal

pub loop-action-preserved : goal.loop-action-preserved
loop-action-preserved c =
    let still = marked_too c.loop-action.marks c.mark.new.marks (get_or c.args.actions.now c.loop-action.action-index 0) c.mark.ensures.marked c.mark.ensures.others in
    record {
      marked = All-more (λ a. is_marked c.mark.new.marks a ≡ true) c.args.actions.now c.loop-action.action-index 0 c.loop-action-test.true
          (All-weaker (λ a. is_marked c.loop-action.marks a ≡ true) (λ a. is_marked c.mark.new.marks a ≡ true) still (take c.loop-action.action-index c.args.actions.now) c.loop-action.invariant.marked)
          c.mark.ensures.marked;
      kept = λ a marked. still a (c.loop-action.invariant.kept a marked);
    }

pub returns-clause-marked : goal.returns-clause-marked
returns-clause-marked c =
    subst (λ (xs : List ℕ). All (λ a. is_marked c.loop-action.marks a ≡ true) xs) (take_all c.loop-action.action-index c.args.actions.now (omega arith)) c.loop-action.invariant.marked
