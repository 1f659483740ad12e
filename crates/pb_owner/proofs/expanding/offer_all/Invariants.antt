use Rattle.std.proofs.Common.{take}
use Rattle.pb_estimate.specs.Tables.{IsOfTask}
use Rattle.pb_owner.specs.Plans.{guide_in}
use Rattle.pb_owner.specs.Expanding.{HasOffered}
use Rattle.pb_owner.proofs.expanding.offer_all.Given as goal

abbrev pub invariant-loop-succ : goal.invariant-loop-succ
invariant-loop-succ g l = record {
  offers : HasOffered (guide_in l.round.plan.now) l.round.number l.parent.0 l.parent.1.g (take l.succ-index l.succs) l.round.post.now l.initial.share l.share l.initial.pass l.pass;
  tables : IsOfTask l.estimator l.round.plan.now.task.now l.round.plan.now.choice.now;
}
