use Rattle.std.proofs.Common.{◌≡◌, ◌-◌, ◌*◌, length, drop}
use Rattle.pb_packed.specs.Words.{number_of, AreWords}
use Rattle.pb_table_lines.specs.Words.{hex_after}
use Rattle.pb_table_lines.proofs.words.read_sixteens.Given as goal

abbrev pub invariant-loop-i : goal.invariant-loop-i
invariant-loop-i l = record {
  words : AreWords (length l.initial.words) l.words;
  long : length l.words ≡ length l.initial.words;
  so_far : hex_after (number_of (drop (length l.initial.words - 1) l.initial.words)) (drop (length l.word - 16 * (length l.initial.words - 1)) l.word)
      ≡ hex_after (number_of (drop (length l.initial.words - l.i) l.words)) (drop (length l.word - 16 * (length l.initial.words - l.i)) l.word);
}
