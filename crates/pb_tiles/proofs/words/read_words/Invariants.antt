use Rattle.std.proofs.Common.{◌≡◌, ◌≤◌, ◌+◌, ◌-◌, take, drop}
use Rattle.pb_tiles.specs.Words.{words, words_behind}
use Rattle.pb_tiles.specs.Reading.{nothing_said, said_by}
use Rattle.pb_tiles.proofs.words.read_words.Given as goal

abbrev pub invariant-loop-at : goal.invariant-loop-at
invariant-loop-at l = record {
  begun : l.begin ≤ l.at;
  lines : l.line ≤ l.at + 1;
  said : said_by l.numbers (words_behind l.line (take (l.at - l.begin) (drop l.begin l.text)) (drop l.at l.text)) ≡ said_by nothing_said (words l.text);
}
