-- What an offer answers.
use Rattle.std.specs.Prelude.{ℕ, Option, None, Some, if◌then◌else◌, nat_lt}
use Rattle.pb_model.specs.declared.row.Row.{Row}
use Rattle.pb_lists.specs.declared.bundle.Offer.{Offer}
use Rattle.pb_lists.specs.declared.bundle.Offer.TheVariants.{New, Better, Worse}

-- Worse if the state's row has at most the offered g, Better if the row has a greater g, and New if
-- the state has no row
abbrev pub offer_of : Option Row → (g : ℕ) → Offer
offer_of None g = New
offer_of (Some row) g = if nat_lt g row.g then Better else Worse
