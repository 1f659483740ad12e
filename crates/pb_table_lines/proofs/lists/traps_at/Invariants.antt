use Rattle.std.proofs.Common.{◌≡◌, ◌≤◌, ◌<◌, ◌-◌, ◌+◌, ◌^◌, All, length, map, codes}
use Rattle.pb_packed.specs.Words.{AreWords}
use Rattle.pb_table_lines.specs.Words.{words_for}
use Rattle.pb_table_lines.specs.Reading.{lists_at, lines_of_lists, of_trap}
use Rattle.pb_table_lines.proofs.Loops.{with_lists}
use Rattle.pb_table_lines.proofs.lists.traps_at.Given as goal

abbrev pub invariant-loop-number : goal.invariant-loop-number
invariant-loop-number l = record {
  so_far : with_lists (map of_trap l.traps.items) (lists_at l.digits (codes "trap ") 0 (l.count - l.number) l.line l.rest) ≡ lists_at l.digits (codes "trap ") 0 l.count l.fn.place.line l.fn.place.text.now;
  line_is : l.line ≡ l.fn.place.line + lines_of_lists (map of_trap l.traps.items);
  few : All (λ trap. length trap.listed < 2 ^ 63) l.traps.items;
  many : length l.traps.items ≡ l.number;
  shorter : l.line + length l.rest ≤ l.fn.place.line + length l.fn.place.text.now;
  long : length l.words ≡ words_for l.digits;
  words : AreWords (length l.words) l.words;
}
