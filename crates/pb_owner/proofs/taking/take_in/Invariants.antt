use Rattle.std.proofs.Common.{List, []}
use Rattle.pb_estimate.specs.Tables.{IsOfTask}
use Rattle.pb_mail.specs.declared.letter.Sent.{Sent}
use Rattle.pb_mail.specs.Posted.{HasPosted}
use Rattle.pb_owner.specs.Taking.{HasTakenIn}
use Rattle.pb_owner.proofs.taking.take_in.Given as goal

abbrev pub invariant-loop : goal.invariant-loop
invariant-loop g l =
    (goal.iterator-loop g).can_next l.iterator' × (goal.iterator-loop g).is_finite l.iterator'
    × ((takes : List Sent) × HasPosted l.post l.fn.pass l.pass [] takes × HasTakenIn l.plan.task.now l.plan.choice.now takes l.fn.share l.share)
    × IsOfTask l.estimator l.plan.task.now l.plan.choice.now
