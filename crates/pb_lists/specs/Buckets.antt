-- The buckets of a bundle, one for each sum. A bucket has entries of Opened rows whose keys have
-- that sum, the least on top: each the estimate, the state, and the place of the row. The state of
-- an Opened row is in the bucket of its key's sum, with its key's estimate. A state may stay in a
-- bucket that isn't its row's any more. The place is always that of the state's row, since rows are
-- never taken out.
use Rattle.std.specs.Prelude.{◌≡◌, ◌≤◌, ◌<◌, ◌+◌, ◌⊎◌, ◌&&◌, ◌||◌, ℕ, Bool, true, false, Option, None, Some, List, [], ◌∷◌, IfSome, nat_eq, slice_get, if◌then◌else◌}
use Rattle.std.specs.BTreeMap.{BTreeMap, get}
use Rattle.std.specs.Global.{Box}
use Rattle.pb_model.specs.declared.key.Key.{Key}
use Rattle.pb_model.specs.declared.row.Row.{Row}
use Rattle.pb_model.specs.declared.row.Status.TheVariants.{Opened}
use Rattle.pb_model.specs.Weight.{Weight, IsWeight}
use Rattle.pb_model.specs.KeyOrder.{key_cmp}
use Rattle.pb_lists.specs.Bundle.{row_in}
use Rattle.pb_lists.specs.Fields.{key_at, is_open_at, sum_of, estimate_in, key_with}
use Rattle.pb_lists.specs.Heaped.{Entry, is_among, first_of, top_of_two}
use Rattle.pb_lists.specs.declared.wide_entries.WideEntries.{WideEntries}
use Rattle.pb_lists.specs.declared.bucket.Bucket.{Bucket}

abbrev pub Buckets : Type 0
Buckets = BTreeMap Key Bucket

-- ---- the entries of states of more than one word

abbrev pub has_wide : WideEntries → Entry → Bool
has_wide wide entry = is_among entry wide.few.items || is_among entry wide.many.items

abbrev pub top_of_wide : WideEntries → Option Entry
top_of_wide wide = top_of_two (first_of wide.few.items) (first_of wide.many.items)

abbrev pub has_boxed : Option (Box WideEntries) → Entry → Bool
has_boxed None entry = false
has_boxed (Some wide) entry = has_wide wide.value entry

abbrev pub top_of_boxed : Option (Box WideEntries) → Option Entry
top_of_boxed None = None
top_of_boxed (Some wide) = top_of_wide wide.value

abbrev pub count_of_boxed : Option (Box WideEntries) → ℕ
count_of_boxed None = 0
count_of_boxed (Some wide) = wide.value.few.len + wide.value.many.len

-- ---- a bucket

abbrev pub has_entry : Bucket → Entry → Bool
has_entry bucket entry = is_among entry bucket.words.items || has_boxed bucket.wide entry

-- the first entry of a bucket
abbrev pub top_of : Bucket → Option Entry
top_of bucket = top_of_two (first_of bucket.words.items) (top_of_boxed bucket.wide)

abbrev pub count_of : Bucket → ℕ
count_of bucket = bucket.words.len + count_of_boxed bucket.wide

abbrev pub has_in : Option Bucket → Entry → Bool
has_in None entry = false
has_in (Some bucket) entry = has_entry bucket entry

-- whether the entry is in the bucket of the sum
abbrev pub has_at : Buckets → Key → Entry → Bool
has_at buckets sum entry = has_in (get key_cmp buckets sum) entry

-- the state is in the bucket of the key's sum, with the key's estimate
abbrev pub HasState : Buckets → Key → (state : ℕ) → Type 0
HasState buckets key state =
    (place : ℕ) × (has_at buckets (sum_of key) (estimate_in key, state, place) ≡ true)

abbrev pub first_key_of : List (Key × Bucket) → Option Key
first_key_of [] = None
first_key_of (first ∷ others) = Some first.0

-- the place of an entry, if that is one of this state
abbrev pub place_if_of : Option Entry → (state : ℕ) → Option ℕ
place_if_of None state = None
place_if_of (Some entry) state = if nat_eq entry.1 state then Some entry.2 else None

-- the place of this state's row, if the first bucket has the state on top
abbrev pub place_on_top : List (Key × Bucket) → (state : ℕ) → Option ℕ
place_on_top [] state = None
place_on_top (first ∷ others) state = place_if_of (top_of first.1) state

-- each Opened row is in the bucket of its key's sum
abbrev pub HasFiled : Weight → List (ℕ × Row) → Buckets → Type 0
HasFiled weight entries buckets = (state : ℕ) (row : Row) → row_in entries state ≡ Some row
    → row.status ≡ Opened → HasState buckets (key_at weight row) state

-- what a bucket has on top is an Opened row of this sum and the entry's estimate
abbrev pub is_led : Weight → List (ℕ × Row) → Key → Option Entry → Bool
is_led weight entries sum None = false
is_led weight entries sum (Some top) = is_open_at weight (row_in entries top.1) (key_with sum top.0)

abbrev pub is_tidy : Weight → List (ℕ × Row) → List (Key × Bucket) → Bool
is_tidy weight entries [] = true
is_tidy weight entries (first ∷ others) = is_led weight entries first.0 (top_of first.1)

-- the first bucket has an Opened row of its sum on top
abbrev pub IsTidy : Weight → List (ℕ × Row) → Buckets → Type 0
IsTidy weight entries buckets = is_tidy weight entries buckets.entries ≡ true

-- each bucket has the entries that it had
abbrev pub KeepsEntries : Buckets → Buckets → Type 0
KeepsEntries old new = (sum : Key) (entry : Entry) → has_at old sum entry ≡ true
    → has_at new sum entry ≡ true

-- the entries that are left have all whose rows are Opened at this sum and the entry's estimate
abbrev pub KeepsLive : Weight → List (ℕ × Row) → Key → (bucket left : Bucket) → Type 0
KeepsLive weight entries sum bucket left = (entry : Entry)
    → is_open_at weight (row_in entries entry.1) (key_with sum entry.0) ≡ true
    → has_entry bucket entry ≡ true → has_entry left entry ≡ true

-- the row at the entry's place is that of the entry's state
abbrev pub IsPlaced : List (ℕ × Row) → Entry → Type 0
IsPlaced entries entry = (row : Row) × (slice_get entries entry.2 ≡ Some (entry.1, row))

-- each entry of a bucket has the place of its state's row
abbrev pub ArePlaced : List (ℕ × Row) → Bucket → Type 0
ArePlaced entries bucket = (entry : Entry) → has_entry bucket entry ≡ true → IsPlaced entries entry

-- the same in all buckets
abbrev pub HasPlaces : List (ℕ × Row) → Buckets → Type 0
HasPlaces entries buckets =
    (sum : Key) (entry : Entry) → has_at buckets sum entry ≡ true → IsPlaced entries entry

-- what holds between the weight, the rows and the buckets of a bundle
pub record AreFields (weight : Weight) (entries : List (ℕ × Row)) (buckets : Buckets) : Type 0 where
  pub filed : HasFiled weight entries buckets
  pub tidy : IsTidy weight entries buckets
  pub placed : HasPlaces entries buckets
  pub is_weight : IsWeight weight
