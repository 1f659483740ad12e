-- Worked rows that are no bare computation.
use Rattle.std.proofs.Common.{false, ◌&&◌, refl, ap}
use Rattle.pb_lifted.specs.WorkedRows.{DeletedAndAddedHolds}

pub deleted_and_added_holds : DeletedAndAddedHolds
deleted_and_added_holds state = (refl, λ h. ap (λ b. b && false) h)
