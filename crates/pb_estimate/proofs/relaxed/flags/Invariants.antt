use Rattle.std.proofs.Common.{◌≡◌, ℕ, ◌<◌, length, get_or, false}
use Rattle.pb_task.specs.Strips.{has_atom}
use Rattle.pb_estimate.proofs.relaxed.flags.Given as goal

abbrev pub invariant-loop-atom : goal.invariant-loop-atom
invariant-loop-atom l = record {
  long : length l.flags.items ≡ l.atom;
  flags : (atom : ℕ) → atom < l.atom → get_or l.flags.items atom false ≡ has_atom l.set atom;
}
