use Rattle.std.proofs.Common.{true, false}
use Rattle.pb_grid.specs.Lines.{lines_of}
use Rattle.pb_grid.proofs.Sizes.{size_steps}
use Rattle.pb_grid.proofs.header.size_of_map.Goals as goal

pub returns-then-not-is_only_word-clause-gives : goal.returns-then-not-is_only_word-clause-gives
returns-then-not-is_only_word-clause-gives c = λ some.
    size_steps (lines_of c.args.text.now) (lines_of c.next_line.result.1.now) (lines_of c.next_line-2.result.1.now) (lines_of c.next_line-3.result.1.now) c.next_line.result.0.now c.next_line-2.result.0.now
    c.next_line-3.result.0.now c.next_line-4.result.0.now c.in-Some.height c.in-Some-number_named.width false c.next_line.ensures.line c.next_line.ensures.rest c.next_line-2.ensures.line c.next_line-2.ensures.rest
    c.next_line-3.ensures.line c.next_line-3.ensures.rest c.next_line-4.ensures.line c.if-not-is_type_line.ensures c.in-Some.ensures c.in-Some-number_named.ensures c.if-not-is_only_word.ensures

pub returns-clause-gives : goal.returns-clause-gives
returns-clause-gives c =
    size_steps (lines_of c.args.text.now) (lines_of c.next_line.result.1.now) (lines_of c.next_line-2.result.1.now) (lines_of c.next_line-3.result.1.now) c.next_line.result.0.now c.next_line-2.result.0.now
    c.next_line-3.result.0.now c.next_line-4.result.0.now c.in-Some.height c.in-Some-number_named.width true c.next_line.ensures.line c.next_line.ensures.rest c.next_line-2.ensures.line c.next_line-2.ensures.rest
    c.next_line-3.ensures.line c.next_line-3.ensures.rest c.next_line-4.ensures.line c.if-not-is_type_line.ensures c.in-Some.ensures c.in-Some-number_named.ensures c.if-not-is_only_word.ensures
