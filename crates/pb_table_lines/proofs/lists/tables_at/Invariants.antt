use Rattle.std.proofs.Common.{◌≡◌, ◌≤◌, ◌-◌, ◌+◌, All, length, codes}
use Rattle.pb_packed.specs.Words.{AreWords}
use Rattle.pb_tables.specs.Tables.{IsTable}
use Rattle.pb_table_lines.specs.Words.{words_for}
use Rattle.pb_table_lines.specs.Reading.{lists_at, lines_of_lists}
use Rattle.pb_table_lines.proofs.Loops.{with_lists}
use Rattle.pb_table_lines.proofs.lists.tables_at.Given as goal

abbrev pub invariant-loop-number : goal.invariant-loop-number
invariant-loop-number l = record {
  so_far : with_lists l.tables.items (lists_at l.digits (codes "table ") l.sums (l.count - l.number) l.line l.rest) ≡ lists_at l.digits (codes "table ") l.sums l.count l.fn.place.line l.fn.place.text.now;
  line_is : l.line ≡ l.fn.place.line + lines_of_lists l.tables.items;
  tables_are : All (IsTable l.sums) l.tables.items;
  many : length l.tables.items ≡ l.number;
  shorter : l.line + length l.rest ≤ l.fn.place.line + length l.fn.place.text.now;
  long : length l.words ≡ words_for l.digits;
  words : AreWords (length l.words) l.words;
}
