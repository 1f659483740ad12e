-- A bundle that is opened again with another weight.
use Rattle.std.specs.Prelude.{◌≡◌, ℕ, Option, Some, List, map}
use Rattle.pb_model.specs.declared.row.Row.{Row}
use Rattle.pb_model.specs.Weight.{Weight}
use Rattle.pb_model.specs.Work.{reopened_status}
use Rattle.pb_lists.specs.Bundle.{Content}
use Rattle.pb_lists.specs.Buckets.{Buckets, AreFields}
use Rattle.pb_lists.specs.Fields.{weight_of}
use Rattle.pb_lists.specs.declared.reopening.OpenedSet.{OpenedSet}

-- a Cut row that may not be cut at this weight and under this incumbent is Opened, and any other
-- row stays
abbrev pub reopened_at : Weight → (bound : ℕ) → Row → Row
reopened_at weight bound row =
    record row { status = reopened_status weight bound row.g row.estimate row.status }

-- the same for each state
abbrev pub reopened_entries : Weight → (bound : ℕ) → List (ℕ × Row) → List (ℕ × Row)
reopened_entries weight bound entries =
    map (λ (entry : ℕ × Row). (entry.0, reopened_at weight bound entry.1)) entries

-- the same for a bundle, which has this weight from then on
abbrev pub reopened : Weight → (bound : ℕ) → Content → Content
reopened weight bound content =
    record { entries = reopened_entries weight bound content.entries; weight = weight }

-- the weight that the rows were prepared for
abbrev pub weight_in : OpenedSet → Weight
weight_in set = weight_of set.num set.den

-- the incumbent that they were prepared for
abbrev pub bound_in : OpenedSet → ℕ
bound_in set = set.bound

-- The set has each row of this content that is Opened, or will be, by its key at the new weight.
pub record IsPreparedFrom (content : Content) (set : OpenedSet) : Type 0 where
  pub fields : AreFields (weight_in set)
      (reopened_entries (weight_in set) (bound_in set) content.entries) set.opened
