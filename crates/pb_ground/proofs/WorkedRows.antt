-- The worked row.
use Rattle.std.proofs.Common.{refl}
use Rattle.pb_ground.specs.WorkedRows.{AllHaveNumbers, FiveHaveNumbers, NeverIsKnown, OthersAreLeftOut}

pub all_have_numbers : AllHaveNumbers
all_have_numbers = (refl, refl)

pub five_have_numbers : FiveHaveNumbers
five_have_numbers = (refl, refl)

pub others_are_left_out : OthersAreLeftOut
others_are_left_out = refl

pub never_is_known : NeverIsKnown
never_is_known = (refl, refl, refl, refl)
