-- The top of the first bucket is the first Opened row.
use Rattle.std.proofs.Common.{◌≡◌, ◌≤◌, ◌<◌, ℕ, Bool, true, Option, Some, None, List, [], ◌∷◌, ◌&&◌, ◌⊎◌, inl, inr, refl, sym, ap, ◌∙◌, subst, arith, nat_lt, true≢false, is_some, IfSome, slice_get, if◌then◌else◌}
use Rattle.std.specs.Ordering.{is_gt}
use Rattle.std.specs.BTreeMap.{get, IsLowerBound}
use Rattle.pb_model.specs.declared.key.Key.{Key}
use Rattle.pb_model.specs.declared.key.Key.TheVariants.{Sum, Dead}
use Rattle.pb_model.specs.declared.row.Estimate.{Estimate}
use Rattle.pb_model.specs.declared.row.Row.{Row}
use Rattle.pb_model.specs.declared.row.Status.{Status}
use Rattle.pb_model.specs.declared.row.Status.TheVariants.{Opened, Closed, Cut}
use Rattle.pb_model.specs.Key.{IsBest, IsBefore, IsFirstRow, IsKeyBelow}
use Rattle.pb_model.specs.KeyOrder.{key_cmp, same_key}
use Rattle.pb_model.specs.Weight.{Weight}
use Rattle.pb_model.proofs.Callers.{key_cases, by_cases, below, not_below}
use Rattle.pb_lists.specs.Bundle.{row_in}
use Rattle.pb_lists.specs.Fields.{key_at, is_opened, is_open_at, opened_costs, sum_of, estimate_in, key_with}
use Rattle.pb_lists.specs.Buckets.{Buckets, has_entry, has_in, has_at, top_of, HasFiled, is_led, is_tidy, IsTidy, HasPlaces}
use Rattle.pb_lists.specs.Heaped.{Entry, estimate_and_place, IsNoLater, IsTop}
use Rattle.std.specs.Option.{option_map}
use Rattle.pb_lists.specs.declared.bucket.Bucket.{Bucket}
use Rattle.pb_lists.proofs.Order.{key_found, key_above}

-- ---- the first bucket

opened_status : (status : Status) (b : Bool) → (is_opened status && b) ≡ true → (status ≡ Opened) × (b ≡ true)
opened_status Opened b e = (refl, e)
opened_status Closed b e = absurd (true≢false (sym e))
opened_status Cut b e = absurd (true≢false (sym e))

-- an Opened row with this key
abbrev HasKey : Weight → Option Row → Key → Type 0
HasKey weight found key = (row : Row) × (found ≡ Some row) × (row.status ≡ Opened) × (key_at weight row ≡ key)

open_row_at : (weight : Weight) (found : Option Row) (key : Key) → is_open_at weight found key ≡ true → HasKey weight found key
open_row_at weight None key e = absurd (true≢false (sym e))
open_row_at weight (Some row) key e =
    let two : (row.status ≡ Opened) × (same_key (key_at weight row) key ≡ true) = opened_status row.status (same_key (key_at weight row) key) e in
    (row, refl, two.0, key_found (key_at weight row) key two.1)

has_bucket : (entry : Entry) (found : Option Bucket) → has_in found entry ≡ true → is_some found ≡ true
has_bucket entry None e = absurd (true≢false (sym e))
has_bucket entry (Some bucket) e = refl

led_first : (weight : Weight) (entries : List (ℕ × Row)) (list : List (Key × Bucket)) (sum : Key) (bucket : Bucket) → slice_get list 0 ≡ Some (sum, bucket) → is_tidy weight entries list ≡ true
    → is_led weight entries sum (top_of bucket) ≡ true
led_first weight entries [] sum bucket first tidy = cc
led_first weight entries (entry ∷ list) sum bucket first tidy =
    let same : entry ≡ (sum, bucket) = cc in
    subst (λ (e : Key × Bucket). is_led weight entries e.0 (top_of e.1) ≡ true) same tidy

-- ---- keys of one sum

-- of two keys at one sum the one of the lesser estimate is below
below_at_sum : (key : Key) (h : ℕ) → IsKeyBelow key (key_with (sum_of key) h) → estimate_in key < h
below_at_sum (Sum sum k) h (inl l) = absurd (omega arith)
below_at_sum (Sum sum k) h (inr l) = l.1
below_at_sum Dead h low = absurd low

-- a key of a greater sum isn't below
not_below_sum : (key sum : Key) (h : ℕ) → IsKeyBelow sum (sum_of key) → IsKeyBelow key (key_with sum h) → ⊥
not_below_sum (Sum a k) (Sum b n) h (inl above) (inl l) = absurd (omega arith)
not_below_sum (Sum a k) (Sum b n) h (inl above) (inr l) = let e = l.0 in absurd (omega arith)
not_below_sum (Sum a k) (Sum b n) h (inr above) low = let e = above.1 in absurd (omega arith)
not_below_sum (Sum a k) Dead h above low = absurd above
not_below_sum Dead sum h above low = absurd low

not_above_sum : (key sum : Key) (h : ℕ) → IsKeyBelow sum (sum_of key) → key ≡ key_with sum h → ⊥
not_above_sum key (Sum b n) h above same = which (subst (λ k. IsKeyBelow (Sum b n) (sum_of k)) same above)
  where
    which : IsKeyBelow (Sum b n) (Sum b 0) → ⊥
    which (inl l) = absurd (omega arith)
    which (inr l) = let e = l.1 in absurd (omega arith)
not_above_sum key Dead h above same = absurd above

estimate_with : (sum : Key) (h : ℕ) → estimate_in (key_with sum h) ≤ h
estimate_with (Sum sum k) h = omega arith
estimate_with Dead h = omega arith

-- the estimate is at most this one, and the state at most this one if the estimates are equal
abbrev IsUpTo : Entry → (h state : ℕ) → Type 0
IsUpTo entry h state = (entry.0 < h) ⊎ ((entry.0 ≡ h) × (entry.1 ≤ state))

up_to : (entry other : Entry) → IsNoLater entry other → IsUpTo entry other.0 other.1
up_to entry other (inl l) = inl l
up_to entry other (inr (e, inl l)) = inr (e, omega arith)
up_to entry other (inr (e, inr l)) = let f = l.0 in inr (e, omega arith)

-- ---- the first row

module _ (weight : Weight) (entries : List (ℕ × Row)) (buckets : Buckets) (filed : HasFiled weight entries buckets) (tidy : IsTidy weight entries buckets)
    (sum : Key) (bucket : Bucket) (first : slice_get buckets.entries 0 ≡ Some (sum, bucket)) (value : get key_cmp buckets sum ≡ Some bucket) (least : IsLowerBound key_cmp buckets sum) where
  led : is_led weight entries sum (top_of bucket) ≡ true
  led = led_first weight entries buckets.entries sum bucket first tidy

  -- no Opened row has a lesser sum
  not_above : (state : ℕ) (row : Row) → row_in entries state ≡ Some row → row.status ≡ Opened → IsKeyBelow (sum_of (key_at weight row)) sum → ⊥
  not_above state row found opened low =
      true≢false (sym (ap is_gt (key_above sum (sum_of (key_at weight row)) low))
      ∙ least (sum_of (key_at weight row)) (let has = filed state row found opened in
      has_bucket (estimate_in (key_at weight row), state, has.0) (get key_cmp buckets (sum_of (key_at weight row))) has.1))

  -- the first bucket has a top
  pub has_top : top_of bucket ≡ None → ⊥
  has_top none = true≢false (sym led ∙ ap (λ top. is_led weight entries sum top) none)

  -- a bucket whose top has no estimate has no top
  pub has_least : None ≡ option_map estimate_and_place (top_of bucket) → ⊥
  has_least none = which (top_of bucket) refl none
    where
      which : (top : Option Entry) → top_of bucket ≡ top → None ≡ option_map estimate_and_place top → ⊥
      which None e n = has_top e
      which (Some top) e n = cc

  module _ (top : Entry) (is_top : Some top ≡ top_of bucket) (low : (other : Entry) → has_entry bucket other ≡ true → IsNoLater top other) where
    here : HasKey weight (row_in entries top.1) (key_with sum top.0)
    here = open_row_at weight (row_in entries top.1) (key_with sum top.0) (ap (λ found. is_led weight entries sum found) is_top ∙ led)

    -- a row of this sum is in the bucket
    at_sum : (state : ℕ) (row : Row) → row_in entries state ≡ Some row → row.status ≡ Opened → sum_of (key_at weight row) ≡ sum → IsUpTo top (estimate_in (key_at weight row)) state
    at_sum state row found opened same =
        let has = filed state row found opened in
        let entry : Entry = (estimate_in (key_at weight row), state, has.0) in
        up_to top entry (low entry (sym (ap (λ f. has_in f entry) value) ∙ subst (λ k. has_at buckets k entry ≡ true) same has.1))

    -- no Opened row has a lesser key
    not_below_top : (state : ℕ) (row : Row) → row_in entries state ≡ Some row → row.status ≡ Opened → IsKeyBelow (key_at weight row) (key_with sum top.0) → ⊥
    not_below_top state row found opened below = which (key_cases (sum_of (key_at weight row)) sum)
      where
        at_least : IsUpTo top (estimate_in (key_at weight row)) state → top.0 ≤ estimate_in (key_at weight row)
        at_least (inl l) = omega arith
        at_least (inr l) = let e = l.0 in omega arith

        which : (IsKeyBelow (sum_of (key_at weight row)) sum ⊎ ((sum_of (key_at weight row) ≡ sum) ⊎ IsKeyBelow sum (sum_of (key_at weight row)))) → ⊥
        which (inl l) = not_above state row found opened l
        which (inr (inl same)) =
            let le = at_least (at_sum state row found opened same) in
            let lt = below_at_sum (key_at weight row) top.0 (subst (λ k. IsKeyBelow (key_at weight row) (key_with k top.0)) (sym same) below) in
            absurd (omega arith)
        which (inr (inr g)) = not_below_sum (key_at weight row) sum top.0 g below

    pub best_of : IsBest weight (row_in entries) (Some (key_with sum top.0))
    best_of = (
      (top.1, here.0, here.1, here.2, here.3),
      λ other has low. not_below_top has.0 has.1 has.2 has.3 (subst (λ k. IsKeyBelow k (key_with sum top.0)) (sym has.4) low),
    )

    pub first_row : (row : Row) × IsFirstRow weight (row_in entries) top.1 row
    first_row = (here.0, record { found = here.1; opened = here.2; first = before })
      where
        no_more : (state : ℕ) (row : Row) → key_with sum top.0 ≡ key_at weight row → IsUpTo top (estimate_in (key_at weight row)) state → top.1 ≤ state
        no_more state row same (inl l) =
            let le = subst (λ k. estimate_in k ≤ top.0) same (estimate_with sum top.0) in
            absurd (omega arith)
        no_more state row same (inr l) = l.1

        at_key : (other : ℕ) (row : Row) → row_in entries other ≡ Some row → row.status ≡ Opened → key_with sum top.0 ≡ key_at weight row → top.1 ≤ other
        at_key other row found opened same = which (key_cases (sum_of (key_at weight row)) sum)
          where
            which : (IsKeyBelow (sum_of (key_at weight row)) sum ⊎ ((sum_of (key_at weight row) ≡ sum) ⊎ IsKeyBelow sum (sum_of (key_at weight row)))) → top.1 ≤ other
            which (inl l) = absurd (not_above other row found opened l)
            which (inr (inl e)) = no_more other row same (at_sum other row found opened e)
            which (inr (inr g)) = absurd (not_above_sum (key_at weight row) sum top.0 g (sym same))

        before : (other : ℕ) (row : Row) → row_in entries other ≡ Some row → row.status ≡ Opened → (other ≡ top.1) ⊎ IsBefore (key_at weight here.0) top.1 (key_at weight row) other
        before other row found opened = which (key_cases (key_with sum top.0) (key_at weight row))
          where
            which : (IsKeyBelow (key_with sum top.0) (key_at weight row) ⊎ ((key_with sum top.0 ≡ key_at weight row) ⊎ IsKeyBelow (key_at weight row) (key_with sum top.0)))
                → (other ≡ top.1) ⊎ IsBefore (key_at weight here.0) top.1 (key_at weight row) other
            which (inl l) = inr (inl (subst (λ k. IsKeyBelow k (key_at weight row)) (sym here.3) l))
            which (inr (inl same)) =
                let le = at_key other row found opened same in
                by_cases (nat_lt top.1 other) (λ t. inr (inr (here.3 ∙ same, below top.1 other t))) (λ f. let ge = not_below top.1 other f in inl (omega arith))
            which (inr (inr g)) = absurd (not_below_top other row found opened g)

  -- the row at the top's place is the first row
  module _ (top : Entry) (is_top : Some top ≡ top_of bucket) (led_by : IsTop (has_entry bucket) (top_of bucket)) (placed : HasPlaces entries buckets)
      (found : Option (ℕ × Estimate)) (at : (state : ℕ) (row : Row) → slice_get entries top.2 ≡ Some (state, row) → found ≡ opened_costs (row_in entries state)) where
    top_by : IsTop (has_entry bucket) (Some top)
    top_by = subst (λ t. IsTop (has_entry bucket) t) (sym is_top) led_by

    costs : (row : Row) → row_in entries top.1 ≡ Some row → row.status ≡ Opened → found ≡ Some (row.g, row.estimate)
    costs row is opened =
        let there = placed sum top (ap (λ f. has_in f top) value ∙ top_by.here) in
        at top.1 there.0 there.1 ∙ (ap opened_costs is ∙ ap (λ status. if is_opened status then Some (row.g, row.estimate) else None) opened)

    -- so it is Opened
    pub has_costs : found ≡ None → ⊥
    has_costs none =
        let row = here top is_top top_by.least in
        let some : found ≡ Some (row.0.g, row.0.estimate) = costs row.0 row.1 row.2 in
        cc

    -- and has its costs
    pub first_costs : (g : ℕ) (estimate : Estimate) → found ≡ Some (g, estimate) → (row : Row) × IsFirstRow weight (row_in entries) top.1 row × (row.g ≡ g) × (row.estimate ≡ estimate)
    first_costs g estimate is =
        let first = first_row top is_top top_by.least in
        let some : found ≡ Some (first.0.g, first.0.estimate) = costs first.0 first.1.found first.1.opened in
        let same : (first.0.g, first.0.estimate) ≡ (g, estimate) = cc in
        (first.0, first.1, ap (λ (c : ℕ × Estimate). c.0) same, ap (λ (c : ℕ × Estimate). c.1) same)

  -- the key of the least estimate
  pub best_at : (least : ℕ × ℕ) → Some least ≡ option_map estimate_and_place (top_of bucket) → IsTop (has_entry bucket) (top_of bucket) → IsBest weight (row_in entries) (Some (key_with sum least.0))
  best_at least is led_by = which (top_of bucket) refl is led_by
    where
      which : (top : Option Entry) → top ≡ top_of bucket → Some least ≡ option_map estimate_and_place top → IsTop (has_entry bucket) top → IsBest weight (row_in entries) (Some (key_with sum least.0))
      which None e f t = cc
      which (Some top) e f t =
          let both : (top.0, top.2) ≡ least = cc in
          let same : top.0 ≡ least.0 = ap (λ (p : ℕ × ℕ). p.0) both in subst (λ n. IsBest weight (row_in entries) (Some (key_with sum n))) same (best_of top e t.least)
