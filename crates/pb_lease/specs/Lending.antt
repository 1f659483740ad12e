-- A lease lends one of its bundles to be changed.
use Rattle.std.specs.Prelude.{ℕ}
use Rattle.std.specs.Borrow.{Lends, MutBor, Fml}
use Rattle.pb_lists.specs.Bundle.{Content}
use Rattle.pb_lists.specs.contracts.bundle.Bundle.{the_row as the_bundle}
use Rattle.pb_lease.specs.contracts.lease.Lease.{the_row as the_lease}
use Rattle.pb_lease.specs.LeaseValue.{LeaseValue, with_bundle}

-- the reference's last value becomes the content of the block's bundle, and all else of the lease
-- is as before
abbrev pub LendsBundle : MutBor LeaseValue → (block : ℕ) → MutBor Content → Fml
LendsBundle lease block bundle =
    Lends the_lease the_bundle lease bundle (with_bundle lease.now block)
