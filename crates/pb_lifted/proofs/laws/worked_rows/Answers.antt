use Rattle.std.proofs.Common.{refl}
use Rattle.pb_lifted.proofs.WorkedRows.{deleted_and_added_holds}
use Rattle.pb_lifted.proofs.laws.worked_rows.Goals as goal

pub returns-clause-subtype : goal.returns-clause-subtype
returns-clause-subtype c = (refl, refl, refl, refl)

pub returns-clause-cycle : goal.returns-clause-cycle
returns-clause-cycle c = refl

pub returns-clause-repeated : goal.returns-clause-repeated
returns-clause-repeated c = (refl, refl, refl)

pub returns-clause-first : goal.returns-clause-first
returns-clause-first c = (refl, refl)

pub returns-clause-lifted : goal.returns-clause-lifted
returns-clause-lifted c = (refl, refl)

pub returns-clause-wrong_type : goal.returns-clause-wrong_type
returns-clause-wrong_type c = (refl, refl)

pub returns-clause-added : goal.returns-clause-added
returns-clause-added c = deleted_and_added_holds

pub returns-clause-metric : goal.returns-clause-metric
returns-clause-metric c = (refl, refl, refl, refl)

pub returns-clause-costs : goal.returns-clause-costs
returns-clause-costs c = (refl, refl, refl, refl, refl, refl)
