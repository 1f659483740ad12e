use Rattle.std.proofs.Common.{◌≡◌, ◌++◌, length}
use Rattle.std.specs.Vec.Iter.{into_iter_items, into_iter_len}
use Rattle.pb_task.proofs.actions.Actions.of.Given as goal

abbrev pub invariant-loop-action : goal.invariant-loop-action
invariant-loop-action l = (l.yielded ++ into_iter_items l.action-iterator ≡ into_iter_items l.initial.action-iterator)
    × (l.actions ≡ l.yielded)
    × (into_iter_len l.action-iterator ≡ length (into_iter_items l.action-iterator))
