use Rattle.std.proofs.Common.{◌≡◌, ◌+◌, ◌++◌, length, sym, ◌∙◌, subst, arith, length-append}
use Rattle.pb_check.specs.declared.front.Spelled.{Spelled}
use Rattle.pb_check.specs.Words.{words_for}
use Rattle.pb_check.specs.Fronts.{RowsThen, rows_while}
use Rattle.pb_check.specs.Kept.{IsSpelledAs}
use Rattle.pb_check.proofs.TextByRows.{rows_fit}
use Rattle.pb_check.proofs.TwoPieces.{none_left, some_left}
use Rattle.pb_check.proofs.front_shares.joined.Goals as goal

pub overflow_add-result : goal.overflow_add-result
overflow_add-result c =
    let front = rows_fit c.args._width c.args._front.now in
    let back = rows_fit c.args._width c.args.back.now in
    let long = c.requires.long in
    let one = c.requires.one.count_is in
    let other = c.requires.other.count_is in
    omega (arith, front, back, long, one, other)

pub overflow_add-result-else-one-eq0 : goal.overflow_add-result-else-one-eq0
overflow_add-result-else-one-eq0 c =
    let front = rows_fit c.args._width c.args._front.now in
    let long = c.requires.long in
    let one = c.requires.one.left_is in
    omega (arith, front, long, one)

pub returns-in_ok-then : goal.returns-in_ok-then
returns-in_ok-then c =
    let found = rows_while c.args._width c.args._front.now in
    let next = rows_while c.args._width c.args.back.now in
    let spelled : Spelled = record { rows = c.in_ok-then.field-0; count = c.args.one.count + c.args.other.count; left = c.args.other.left } in
    let none : length found.1 ≡ 0 = sym c.requires.one.left_is ∙ c.if-one-eq0.true in
    let count : c.args.one.count + c.args.other.count ≡ length (found.0 ++ next.0) = omega (arith, length-append found.0 next.0, c.requires.one.count_is, c.requires.other.count_is) in
    subst (λ (f : RowsThen). IsSpelledAs spelled (words_for c.args._width) f) (sym (none_left c.args._width c.args._front.now c.args.back.now c.requires.whole none)) (record {
      rows = c.in_ok-then.ensures.kept (words_for c.args._width) found.0 next.0 c.requires.one.rows c.requires.other.rows;
      count_is = count;
      left_is = c.requires.other.left_is;
    })

pub returns-else-one-eq0 : goal.returns-else-one-eq0
returns-else-one-eq0 c =
    let found = rows_while c.args._width c.args._front.now in
    let spelled : Spelled = record { rows = c.args.one.rows; count = c.args.one.count; left = c.args.one.left + length c.args.back.now } in
    let left : c.args.one.left + length c.args.back.now ≡ length (found.1 ++ c.args.back.now) = omega (arith, length-append found.1 c.args.back.now, c.requires.one.left_is) in
    subst (λ (f : RowsThen). IsSpelledAs spelled (words_for c.args._width) f) (sym (some_left c.args._width c.args._front.now c.args.back.now c.requires.whole (λ e. c.if-one-eq0.false (c.requires.one.left_is ∙ e)))) (record {
      rows = c.requires.one.rows;
      count_is = c.requires.one.count_is;
      left_is = left;
    })
