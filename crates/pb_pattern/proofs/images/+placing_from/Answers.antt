use Rattle.std.proofs.Common.{arith}
use Rattle.pb_pattern.proofs.Slots.{one_more_digit, digit_fits}
use Rattle.pb_pattern.proofs.images.+placing_from.Goals as goal

pub overflow_mul-result : goal.overflow_mul-result
overflow_mul-result t c =
    let fits = digit_fits c.args.many c.placing_from.result 0 c.if-many-eq0.false c.requires.many c.placing_from.ensures.small (omega arith) in
    omega (arith, fits)

pub overflow_add-result : goal.overflow_add-result
overflow_add-result t c =
    let fits = digit_fits c.args.many c.placing_from.result c.cell_with-cell.result c.if-many-eq0.false c.requires.many c.placing_from.ensures.small c.cell_with-cell.ensures.small in
    omega (arith, fits)

pub returns-else-many-eq0-clause-small : goal.returns-else-many-eq0-clause-small
returns-else-many-eq0-clause-small t c = one_more_digit c.args.many c.placing_from.result c.cell_with-cell.result c.if-many-eq0.false c.requires.many c.placing_from.ensures.small c.cell_with-cell.ensures.small
