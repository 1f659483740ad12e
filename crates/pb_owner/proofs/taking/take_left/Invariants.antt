use Rattle.std.proofs.Common.{◌≡◌, ◌++◌, List}
use Rattle.pb_estimate.specs.Tables.{IsOfTask}
use Rattle.pb_mail.specs.declared.letter.Sent.{Sent}
use Rattle.pb_mail.specs.Passes.{view_at, IsPassOf}
use Rattle.pb_owner.specs.Taking.{HasTakenIn, KeepsQueues}
use Rattle.pb_owner.proofs.taking.take_left.Given as goal

abbrev pub invariant-loop : goal.invariant-loop
invariant-loop g l =
    (goal.iterator-loop g).can_next l.iterator' × (goal.iterator-loop g).is_finite l.iterator'
    × ((takes : List Sent) × ((view_at l.pass l.owner).taken ≡ (view_at l.fn.pass l.owner).taken ++ takes) × HasTakenIn l.plan.task.now l.plan.choice.now takes l.fn.share l.share)
    × IsPassOf l.post l.pass × KeepsQueues l.owner l.fn.pass l.pass
    × IsOfTask l.estimator l.plan.task.now l.plan.choice.now
