use Rattle.std.proofs.Common.{◌≡◌, ◌≤◌, ◌-◌, vec_capacity}
use Rattle.pb_estimate.specs.Tables.{IsOfTask}
use Rattle.pb_owner.specs.Plans.{space_in, guide_in, weight_in}
use Rattle.pb_owner.specs.Expanding.{HasExpanded}
use Rattle.pb_owner.proofs.working.work.Given as goal

abbrev pub invariant-loop-next : goal.invariant-loop-next
invariant-loop-next g l = record {
  worked : HasExpanded (space_in l.round.plan.now) (guide_in l.round.plan.now) (weight_in l.round.plan.now) l.round.number l.used 0 l.round.post.now l.initial.share l.share l.initial.pass l.pass;
  quota : l.used ≤ l.quota;
  of_weight : l.share.bundle.weight ≡ weight_in l.round.plan.now;
  tables : IsOfTask l.estimator l.round.plan.now.task.now l.round.plan.now.choice.now;
  room : vec_capacity l.initial.succs ≤ vec_capacity l.succs;
}

abbrev pub decreases-loop-next : goal.decreases-loop-next
decreases-loop-next g l = l.quota - l.used
