use Rattle.std.proofs.Common.{◌%◌, ◌<◌, arith, sym, subst}
use Rattle.pb_pattern.proofs.Placings.{cell_after_small}
use Rattle.pb_pattern.proofs.Slots.{one_more_digit, digit_fits}
use Rattle.pb_pattern.proofs.pieces.+placing_after.Goals as goal

pub overflow_mul-result : goal.overflow_mul-result
overflow_mul-result t c =
    let fits = digit_fits c.args.count c.placing_after.result 0 c.if-count-eq0.false c.requires.count c.placing_after.ensures.small (omega arith) in
    omega (arith, fits)

pub overflow_add-result : goal.overflow_add-result
overflow_add-result t c =
    let cell : c.cell_after-cell.result < 16 = subst (λ n. n < 16) (sym c.cell_after-cell.ensures) (cell_after_small c.args.blank c.args.other (c.args.placing % 16) 16 c.requires.blank c.requires.other (omega arith)) in
    let fits = digit_fits c.args.count c.placing_after.result c.cell_after-cell.result c.if-count-eq0.false c.requires.count c.placing_after.ensures.small cell in
    omega (arith, fits)

pub returns-else-count-eq0-clause-small : goal.returns-else-count-eq0-clause-small
returns-else-count-eq0-clause-small t c =
    let cell : c.cell_after-cell.result < 16 = subst (λ n. n < 16) (sym c.cell_after-cell.ensures) (cell_after_small c.args.blank c.args.other (c.args.placing % 16) 16 c.requires.blank c.requires.other (omega arith)) in
    one_more_digit c.args.count c.placing_after.result c.cell_after-cell.result c.if-count-eq0.false c.requires.count c.placing_after.ensures.small cell
