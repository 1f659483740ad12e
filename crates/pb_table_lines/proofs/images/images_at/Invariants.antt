use Rattle.std.proofs.Common.{◌≡◌, ◌≤◌, ◌-◌, ◌+◌, ◌*◌, ◌^◌, All, length}
use Rattle.pb_packed.specs.Words.{AreWords}
use Rattle.pb_table_lines.specs.Words.{words_for}
use Rattle.pb_table_lines.specs.Reading.{images_at}
use Rattle.pb_table_lines.proofs.Loops.{with_images, images_of}
use Rattle.pb_table_lines.proofs.images.images_at.Given as goal

abbrev pub invariant-loop-i : goal.invariant-loop-i
invariant-loop-i l = record {
  so_far : with_images (images_of l.images.listed l.images.values) (images_at l.digits l.sums (l.count - l.i) (l.line + l.i) l.rest) ≡ images_at l.digits l.sums l.count l.line l.text;
  many : length l.images.values ≡ length l.images.listed * l.sums;
  small : All (λ value. value ≤ 2 ^ 40) l.images.values;
  as_many : length l.images.listed ≡ l.i;
  shorter : length l.rest + l.i ≤ length l.text;
  long : length l.words ≡ words_for l.digits;
  words : AreWords (length l.words) l.words;
}
