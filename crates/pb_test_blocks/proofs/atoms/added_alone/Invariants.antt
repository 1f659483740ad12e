use Rattle.std.proofs.Common.{◌≡◌, All, length}
use Rattle.pb_task.specs.Strips.{IsGroundAction}
use Rattle.pb_test_blocks.proofs.atoms.added_alone.Given as goal

abbrev pub invariant-loop-atom : goal.invariant-loop-atom
invariant-loop-atom l = record {
  all : All (IsGroundAction l.count) l.actions.items;
  many : length l.actions.items ≡ l.atom;
}
