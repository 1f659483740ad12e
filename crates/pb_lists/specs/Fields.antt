-- The key of a row in a bundle, and the rows that are Opened.
use Rattle.std.specs.Prelude.{ℕ, Bool, true, false, Option, None, Some, ◌&&◌, if◌then◌else◌}
use Rattle.pb_model.specs.declared.key.Key.{Key}
use Rattle.pb_model.specs.declared.key.Key.TheVariants.{Sum, Dead}
use Rattle.pb_model.specs.declared.row.Estimate.{Estimate}
use Rattle.pb_model.specs.declared.row.Row.{Row}
use Rattle.pb_model.specs.declared.row.Status.{Status}
use Rattle.pb_model.specs.declared.row.Status.TheVariants.{Opened, Closed, Cut}
use Rattle.pb_model.specs.Weight.{Weight}
use Rattle.pb_model.specs.Key.{key_of}
use Rattle.pb_model.specs.KeyOrder.{same_key}

abbrev pub weight_of : (num den : ℕ) → Weight
weight_of num den = record { num = num; den = den }

abbrev pub key_at : Weight → Row → Key
key_at weight row = key_of weight row.g row.estimate

abbrev pub is_opened : Status → Bool
is_opened Opened = true
is_opened Closed = false
is_opened Cut = false

-- whether there is an Opened row with this key
abbrev pub is_open_at : Weight → Option Row → Key → Bool
is_open_at weight None key = false
is_open_at weight (Some row) key = is_opened row.status && same_key (key_at weight row) key

-- the g and the estimate of an Opened row
abbrev pub opened_costs : Option Row → Option (ℕ × Estimate)
opened_costs None = None
opened_costs (Some row) = if is_opened row.status then Some (row.g, row.estimate) else None

-- whether there are costs with this key
abbrev pub has_key : Weight → Option (ℕ × Estimate) → Key → Bool
has_key weight None key = false
has_key weight (Some costs) key = same_key (key_of weight costs.0 costs.1) key

-- the sum of a key, as the key with that sum and the estimate 0
abbrev pub sum_of : Key → Key
sum_of (Sum sum h) = Sum sum 0
sum_of Dead = Dead

-- the estimate of a key
abbrev pub estimate_in : Key → ℕ
estimate_in (Sum sum h) = h
estimate_in Dead = 0

-- the key with this sum and this estimate
abbrev pub key_with : Key → ℕ → Key
key_with (Sum sum h) estimate = Sum sum estimate
key_with Dead estimate = Dead
