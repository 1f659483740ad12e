use Rattle.std.proofs.Common.{◌≡◌, ◌<◌, ◌≤◌, ℕ, length, get_or}
use Rattle.pb_packed.specs.Words.{AreWords}
use Rattle.pb_packed.proofs.slices.copy_words.Given as goal

abbrev pub invariant-loop-i : goal.invariant-loop-i
invariant-loop-i l = record {
  size : length l.out ≡ length l.initial.out;
  words : AreWords (length l.initial.out) l.out;
  done : (k : ℕ) → k < l.i → get_or l.out k 0 ≡ get_or l.words k 0;
  left : (k : ℕ) → l.i ≤ k → get_or l.out k 0 ≡ 0;
}
