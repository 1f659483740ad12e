use Rattle.std.proofs.Common.{◌≡◌, ℕ, ◌-◌, ◌<◌, ◌≤◌, true, [], get_or, All}
use Rattle.pb_task.specs.Strips.{has_atom}
use Rattle.pb_task.specs.Marks.{is_marked}
use Rattle.pb_estimate.proofs.action_index.mark_candidates.Given as goal

abbrev pub invariant-loop-atom : goal.invariant-loop-atom
invariant-loop-atom l = record {
  most : l.atom ≤ l.atoms;
  marked : (a : ℕ) → a < l.atom → has_atom l.state a ≡ true → All (λ action. is_marked l.marks action ≡ true) (get_or l.lists a []);
}

abbrev pub decreases-loop-atom : goal.decreases-loop-atom
decreases-loop-atom l = l.atoms - l.atom
