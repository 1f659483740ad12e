-- Changes of a lease's rows, bundle by bundle.
use Rattle.std.specs.Prelude.{◌≡◌, ℕ, ◌<◌, ◌==◌, ◌&&◌, List, length, take, Option, None, Some, IsSome, if◌then◌else◌, sum_by}
use Rattle.std.specs.Map.{keys_of}
use Rattle.pb_model.specs.declared.row.Estimate.{Estimate}
use Rattle.pb_model.specs.declared.row.Row.{Row}
use Rattle.pb_model.specs.declared.row.Status.{Status}
use Rattle.pb_model.specs.declared.row.Status.TheVariants.{Opened, Closed, Cut}
use Rattle.pb_model.specs.declared.row.Succ.{Succ}
use Rattle.pb_model.specs.Space.{Space, Steps}
use Rattle.pb_model.specs.Guide.{Guide}
use Rattle.pb_model.specs.Work.{with_status, offered_row, row_after_offers}
use Rattle.pb_lists.specs.Bundle.{Content}
use Rattle.pb_bundles.specs.Parts.{content_in, away_rows}
use Rattle.pb_lease.specs.LeaseValue.{LeaseValue, HasWeights}

-- Rows of the lease's bundles may have changed, and nothing else did. The same blocks have a
-- bundle. If each bundle had the lease's weight, each still has it.
pub record ChangesRows (old new : LeaseValue) : Type 0 where
  pub others : new ≡ record old { parts = new.parts }
  pub places : keys_of new.parts ≡ keys_of old.parts
  pub weights : HasWeights old → HasWeights new

-- the state's row in this block's bundle has this status, and every other row is as it was
abbrev pub SetsStatusAt : (old new : LeaseValue) → (block state : ℕ) → Status → Type 0
SetsStatusAt old new block state status =
    (home other : ℕ) → away_rows new.parts home other
    ≡ (if (home == block) && (other == state) then with_status status
    (away_rows old.parts home other) else away_rows old.parts home other)

-- the state was offered to this block's bundle, and every other row is as it was
abbrev pub OffersAt : (old new : LeaseValue) → (block state g : ℕ) → Estimate → (parent : Option ℕ)
    → (action : ℕ) → Type 0
OffersAt old new block state g estimate parent action =
    (home other : ℕ) → away_rows new.parts home other
    ≡ (if (home == block) && (other == state) then Some
    (offered_row g estimate parent action (away_rows old.parts home other))
    else away_rows old.parts home other)

-- these successors of a row with this g were offered, one after another, each to the bundle of its
-- own block
abbrev pub HasOffers : Guide → (parent g : ℕ) → List Succ → (old new : LeaseValue) → Type 0
HasOffers guide parent g succs old new =
    (home state : ℕ) → away_rows new.parts home state
    ≡ row_after_offers guide parent g succs home state (away_rows old.parts home state)

-- the first of these successors were offered, and at least one was not
abbrev pub IsBrokenOff : Guide → (parent g : ℕ) → List Succ → (old new : LeaseValue) → Type 0
IsBrokenOff guide parent g succs old new =
    (count : ℕ) × (count < length succs) × HasOffers guide parent g (take count succs) old new

-- each step from the state leads to a block that has one of these bundles
abbrev pub LeadsInto : Space → Guide → (state : ℕ) → (parts : List (ℕ × Content)) → Type 0
LeadsInto space guide state parts =
    (action to cost : ℕ) → Steps space state action to cost
    → IsSome (content_in parts (guide.home to))

abbrev pub one_if_opened : Status → ℕ
one_if_opened Opened = 1
one_if_opened Closed = 0
one_if_opened Cut = 0

abbrev pub opened_in : Option Content → ℕ
opened_in None = 0
opened_in (Some content) =
    sum_by (λ (entry : ℕ × Row). one_if_opened entry.1.status) content.entries

-- how many rows of the lease's own block are Opened
abbrev pub own_opened : LeaseValue → ℕ
own_opened lease = opened_in (content_in lease.parts lease.block)
