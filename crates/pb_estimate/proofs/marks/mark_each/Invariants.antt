use Rattle.std.proofs.Common.{◌≡◌, ℕ, true, take, All}
use Rattle.pb_task.specs.Marks.{is_marked}
use Rattle.pb_estimate.proofs.marks.mark_each.Given as goal

abbrev pub invariant-loop-action : goal.invariant-loop-action
invariant-loop-action l = record {
  marked : All (λ a. is_marked l.marks a ≡ true) (take l.action-index l.actions);
  kept : (a : ℕ) → is_marked l.initial.marks a ≡ true → is_marked l.marks a ≡ true;
}
