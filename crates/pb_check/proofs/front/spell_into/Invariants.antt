use Rattle.std.proofs.Common.{◌≡◌, ◌≤◌, ◌+◌, List, length}
use Rattle.pb_packed.specs.Words.{AreWords}
use Rattle.pb_model.specs.Certificate.{Line}
use Rattle.pb_check.specs.Words.{words_for}
use Rattle.pb_check.specs.Fronts.{rows_while}
use Rattle.pb_check.specs.Kept.{Keeps}
use Rattle.pb_check.proofs.TextByRows.{all_then}
use Rattle.pb_check.proofs.front.spell_into.Given as goal

abbrev pub invariant-loop-end : goal.invariant-loop-end
invariant-loop-end l = record {
  all : List Line;
  so_far : all_then all (rows_while l.width l.rest) ≡ rows_while l.width l.text;
  kept : Keeps l.rows (words_for l.width) all;
  count_is : l.count ≡ length all;
  few : l.count + length l.rest ≤ length l.text;
  long : length l.words ≡ words_for l.width;
  words : AreWords (length l.words) l.words;
}

abbrev pub decreases-loop-end : goal.decreases-loop-end
decreases-loop-end l = length l.rest
