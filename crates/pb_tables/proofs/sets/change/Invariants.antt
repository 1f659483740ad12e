use Rattle.std.proofs.Common.{◌≡◌, ◌<◌, ℕ, length, get_or}
use Rattle.pb_tables.proofs.Words.{changed_at}
use Rattle.pb_tables.proofs.sets.change.Given as goal

abbrev pub invariant-loop-i : goal.invariant-loop-i
invariant-loop-i l = record {
  size : length l.next ≡ length l.initial.next;
  done : (k : ℕ) → k < l.i → get_or l.next k 0 ≡ changed_at l.held l.adds l.deletes l.tracked k;
}
