use Rattle.std.proofs.Common.{arith, sym, ◌∙◌}
use Rattle.pb_tiles.specs.Words.{words}
use Rattle.pb_tiles.specs.Reading.{nothing_said, said_by}
use Rattle.pb_tiles.proofs.Parting.{ends_word, goes_on, same_place}
use Rattle.pb_tiles.proofs.words.read_words.Goals as goal
use Rattle.pb_tiles.proofs.words.read_words.Goals.{then-is_blank+in_ok-take, else-is_blank}

pub loop-at-preserved : goal.loop-at-preserved
loop-at-preserved c = elim c.if-is_blank.branch [
  | then-is_blank+in_ok-take w ↦ record {
    begun = omega (arith, w.begin-is);
    lines = omega (arith, w.line-is, w.line_behind-line.ensures.next, c.loop-at.invariant.lines);
    said =
        same_place c.args.text.now _ c.if-is_blank.numbers w.take.new.self c.if-is_blank.line _ c.if-is_blank.begin _ (said_by nothing_said (words c.args.text.now))
        w.numbers-is (w.line-is ∙ w.line_behind-line.ensures.line) w.begin-is
        (ends_word c.args.text.now c.loop-at.at c.loop-at.begin c.loop-at.line c.loop-at.numbers w.take.new.self (said_by nothing_said (words c.args.text.now)) c.loop-at-test.true
        (sym c.is_blank.ensures ∙ w.if-is_blank.true) c.loop-at.invariant.said w.in_ok-take.ensures.said);
  }
  | else-is_blank w ↦ record {
    begun = omega (arith, w.begin-is, c.loop-at.invariant.begun);
    lines = omega (arith, w.line-is, c.loop-at.invariant.lines);
    said =
        same_place c.args.text.now _ c.if-is_blank.numbers c.loop-at.numbers c.if-is_blank.line c.loop-at.line c.if-is_blank.begin c.loop-at.begin (said_by nothing_said (words c.args.text.now))
        w.numbers-is w.line-is w.begin-is
        (goes_on c.args.text.now c.loop-at.at c.loop-at.begin c.loop-at.line c.loop-at.numbers (said_by nothing_said (words c.args.text.now)) c.loop-at.invariant.begun c.loop-at-test.true
        (sym c.is_blank.ensures ∙ w.if-is_blank.false) c.loop-at.invariant.said);
  }
]
