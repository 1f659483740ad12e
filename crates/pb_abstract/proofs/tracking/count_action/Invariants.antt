use Rattle.std.proofs.Common.{◌≡◌, ◌<◌, ◌≤◌, ◌-◌, length, true}
use Rattle.pb_task.specs.Strips.{action_at}
use Rattle.pb_abstract.specs.Tracked.{changes}
use Rattle.pb_abstract.proofs.Counting.{IsCounted}
use Rattle.pb_abstract.proofs.tracking.count_action.Given as goal

abbrev pub invariant-loop-atom : goal.invariant-loop-atom
invariant-loop-atom l = record {
  most : l.atom ≤ length l.initial.counts;
  counted : IsCounted l.counts l.initial.counts (λ atom. changes atom (action_at l.actions l.at)) l.atom;
  has : l.atom < length l.initial.counts → changes l.atom (action_at l.actions l.at) ≡ true;
}

abbrev pub decreases-loop-atom : goal.decreases-loop-atom
decreases-loop-atom l = length l.initial.counts - l.atom
