-- A bundle that is away from home is lent to be changed.
use Rattle.std.specs.Prelude.{ℕ}
use Rattle.std.specs.Borrow.{Lends, MutBor, Fml}
use Rattle.pb_lists.specs.Bundle.{Content}
use Rattle.pb_lists.specs.contracts.bundle.Bundle.{the_row as the_bundle}
use Rattle.pb_bundles.specs.contracts.parts.LentBundles.{the_row as the_parts}
use Rattle.pb_bundles.specs.Parts.{PartList, with_part}

-- the reference's last value becomes the content of the block's bundle, and all other parts are as
-- before, with the same room
abbrev pub LendsBundle : MutBor PartList → (block : ℕ) → MutBor Content → Fml
LendsBundle parts block bundle =
    Lends the_parts the_bundle parts bundle (with_part parts.now block)
