use Rattle.std.proofs.Common.{◌≡◌, ◌≤◌, ◌-◌, ◌+◌, ℕ, List, length}
use Rattle.pb_check.specs.Reading.{actions_at}
use Rattle.pb_check.proofs.Loops.{with_front}
use Rattle.pb_check.proofs.actions.actions_at.Given as goal

abbrev pub invariant-loop-i : goal.invariant-loop-i
invariant-loop-i l = record {
  front : List ℕ;
  so_far : with_front front (actions_at (l.count - l.i) (l.line + l.i) l.rest) ≡ actions_at l.count l.line l.text;
  many : length front ≡ l.i;
  shorter : length l.rest + l.i ≤ length l.text;
}
