use Rattle.std.proofs.Common.{ap, unwrap_or}
use Rattle.pb_estimate.proofs.tiles.cell_with.Goals as goal

pub returns-in-Some-clause-cell : goal.returns-in-Some-clause-cell
returns-in-Some-clause-cell c = ap (λ o. unwrap_or o 0) c.in-Some.ensures.cell

pub returns-in-None-clause-cell : goal.returns-in-None-clause-cell
returns-in-None-clause-cell c = ap (λ o. unwrap_or o 0) c.in-None.ensures.cell
