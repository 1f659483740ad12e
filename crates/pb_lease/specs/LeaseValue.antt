-- What a contract sees of a lease.
use Rattle.std.specs.Prelude.{◌≡◌, ◌^◌, ◌≤◌, ℕ, List, Option, Some}
use Rattle.std.specs.Map.{keys_of}
use Rattle.pb_model.specs.Weight.{Weight, IsWeight}
use Rattle.pb_model.specs.Store.{Store, AtMost}
use Rattle.pb_estimate.specs.Choices.{Choice}
use Rattle.pb_lists.specs.Bundle.{Content}
use Rattle.pb_bundles.specs.Parts.{content_in, with_content, away_rows}

-- The worker that has the lease, its block, and how many expansions it may make and has made. Then
-- the least cost at which a goal is known to be reached, or none. Then the weight of the search,
-- the choice of its estimate, the bundles of the block's scope, and how many bundles fit in their
-- list without more memory.
pub record LeaseValue : Type 0 where
  pub worker : ℕ
  pub block : ℕ
  pub quota : ℕ
  pub used : ℕ
  pub incumbent : Option ℕ
  pub weight : Weight
  pub choice : Choice
  pub parts : List (ℕ × Content)
  pub fits : ℕ

-- the lease's rows with its incumbent, as a store
abbrev pub leased_store : LeaseValue → Store
leased_store lease =
    record { rows = away_rows lease.parts; incumbent = lease.incumbent; weight = lease.weight }

-- every bundle has the lease's weight
abbrev pub HasWeights : LeaseValue → Type 0
HasWeights lease =
    (block : ℕ) (content : Content) → content_in lease.parts block ≡ Some content
    → content.weight ≡ lease.weight

-- the lease with this content as the bundle of the block, and all else as before
abbrev pub with_bundle : LeaseValue → (block : ℕ) → Content → LeaseValue
with_bundle lease block content = record lease { parts = with_content lease.parts block content }

-- what holds of every lease
pub record IsLease (lease : LeaseValue) : Type 0 where
  pub weight : IsWeight lease.weight
  pub within : lease.used ≤ lease.quota
  pub few : lease.quota ≤ 2 ^ 20

-- It is a lease of the same block for the same worker, with the same quota, weight and estimate and
-- with bundles of the same blocks. As many bundles fit in their list, and the incumbent is no
-- greater.
pub record IsSameLease (old new : LeaseValue) : Type 0 where
  pub worker : new.worker ≡ old.worker
  pub block : new.block ≡ old.block
  pub quota : new.quota ≡ old.quota
  pub weight : new.weight ≡ old.weight
  pub choice : new.choice ≡ old.choice
  pub places : keys_of new.parts ≡ keys_of old.parts
  pub fits : new.fits ≡ old.fits
  pub incumbent : AtMost new.incumbent old.incumbent
