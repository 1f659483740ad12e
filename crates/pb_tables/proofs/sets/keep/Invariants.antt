use Rattle.std.proofs.Common.{◌≡◌, ◌<◌, ◌≤◌, ℕ, length, get_or, bit_and}
use Rattle.pb_packed.specs.Words.{AreWords}
use Rattle.pb_tables.proofs.sets.keep.Given as goal

abbrev pub invariant-loop-i : goal.invariant-loop-i
invariant-loop-i l = record {
  size : length l.words ≡ length l.initial.words;
  words : AreWords (length l.initial.words) l.words;
  done : (k : ℕ) → k < l.i → get_or l.words k 0 ≡ bit_and (get_or l.initial.words k 0) (get_or l.set k 0);
  rest : (k : ℕ) → l.i ≤ k → get_or l.words k 0 ≡ get_or l.initial.words k 0;
}
