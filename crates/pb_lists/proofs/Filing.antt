-- The buckets after a state was put into one, and after states left one.
use Rattle.std.proofs.Common.{◌≡◌, ℕ, Bool, true, false, cond, Option, Some, None, List, [], ◌∷◌, ◌&&◌, ◌⊎◌, inl, inr, refl, sym, ap, ◌∙◌, subst, nat_eq, true≢false, IfSome, IfNone, slice_get, if◌then◌else◌}
use Rattle.std.specs.Ordering.{is_eq, match_ordering}
use Rattle.std.specs.declared.cmp.Ordering.{Ordering}
use Rattle.std.specs.declared.cmp.Ordering.TheVariants.{Less, Equal, Greater}
use Rattle.std.specs.Map.{lookup, set_value}
use Rattle.std.specs.BTreeMap.{get, is_at, insert_entry, Updates, IsUnchanged}
use Rattle.pb_model.specs.declared.key.Key.{Key}
use Rattle.pb_model.specs.declared.key.Key.TheVariants.{Sum, Dead}
use Rattle.std.specs.Option.{option_map}
use Rattle.pb_model.specs.declared.row.Estimate.{Estimate}
use Rattle.pb_model.specs.declared.row.Row.{Row}
use Rattle.pb_model.specs.declared.row.Status.TheVariants.{Opened}
use Rattle.pb_model.specs.Weight.{Weight}
use Rattle.pb_model.specs.KeyOrder.{key_cmp, same_key}
use Rattle.pb_lists.specs.Bundle.{row_in}
use Rattle.pb_lists.specs.Fields.{key_at, is_opened, opened_costs, has_key, is_open_at, sum_of, estimate_in, key_with}
use Rattle.pb_lists.specs.Buckets.{Buckets, has_entry, has_in, has_at, HasState, top_of, first_key_of, place_if_of, place_on_top, HasFiled, is_led, is_tidy, IsTidy, KeepsEntries, KeepsLive, IsPlaced, ArePlaced, HasPlaces}
use Rattle.pb_lists.specs.declared.bucket.Bucket.{Bucket}
use Rattle.indexmap.specs.IndexMap as IndexMap
use Rattle.pb_lists.proofs.Order.{key_self, key_found}
use Rattle.pb_lists.proofs.Parts.{top_member}
use Rattle.pb_lists.proofs.Tables.{put_place}
use Rattle.pb_model.proofs.Callers.{equal, equal_self, equal_swap}
use Rattle.pb_lists.specs.Heaped.{Entry, estimate_and_place, IsTop}

pub key_same : (key : Key) → same_key key key ≡ true
key_same key = ap is_eq (key_self key)

-- a key is made of its sum and its estimate
pub key_joins : (key : Key) → key_with (sum_of key) (estimate_in key) ≡ key
key_joins (Sum sum h) = refl
key_joins Dead = refl

-- the costs of an Opened row have the row's key
pub key_by_costs : (weight : Weight) (found : Option Row) (key : Key) → has_key weight (opened_costs found) key ≡ is_open_at weight found key
key_by_costs weight None key = refl
key_by_costs weight (Some row) key = which (is_opened row.status)
  where
    which : (b : Bool) → has_key weight (if b then Some (row.g, row.estimate) else None) key ≡ (b && same_key (key_at weight row) key)
    which true = refl
    which false = refl

-- ---- a bucket that is written

module _ (old new : Buckets) (sum : Key) (bucket : Bucket) (set : (q : Key) → get key_cmp new q ≡ cond (same_key sum q) (Some bucket) (get key_cmp old q)) where
  at_sum : (q : Key) → same_key sum q ≡ true → get key_cmp new q ≡ Some bucket
  at_sum q same = set q ∙ ap (λ b. cond b (Some bucket) (get key_cmp old q)) same

  at_other : (q : Key) → same_key sum q ≡ false → get key_cmp new q ≡ get key_cmp old q
  at_other q other = set q ∙ ap (λ b. cond b (Some bucket) (get key_cmp old q)) other

  pub set_here : (entry : Entry) → has_entry bucket entry ≡ true → has_at new sum entry ≡ true
  set_here entry member = ap (λ found. has_in found entry) (at_sum sum (key_same sum)) ∙ member

  pub set_keeps : ((entry : Entry) → has_at old sum entry ≡ true → has_entry bucket entry ≡ true) → KeepsEntries old new
  set_keeps more q entry had = which (same_key sum q) refl
    where
      which : (b : Bool) → same_key sum q ≡ b → has_at new q entry ≡ true
      which true same = ap (λ found. has_in found entry) (at_sum q same) ∙ more entry (subst (λ k. has_at old k entry ≡ true) (sym (key_found sum q same)) had)
      which false other = ap (λ found. has_in found entry) (at_other q other) ∙ had

  pub set_empty : ((entry : Entry) → has_entry bucket entry ≡ false) → (entry : Entry) → has_at new sum entry ≡ false
  set_empty none entry = ap (λ found. has_in found entry) (at_sum sum (key_same sum)) ∙ none entry

  -- the bucket was cleared of what isn't Opened at its sum and the entry's estimate
  pub set_filed : (weight : Weight) (entries : List (ℕ × Row))
      → ((entry : Entry) → is_open_at weight (row_in entries entry.1) (key_with sum entry.0) ≡ true → has_at old sum entry ≡ true → has_entry bucket entry ≡ true)
      → HasFiled weight entries old → HasFiled weight entries new
  set_filed weight entries left filed state row found opened = (had.0, which (same_key sum (sum_of (key_at weight row))) refl)
    where
      had : HasState old (key_at weight row) state
      had = filed state row found opened

      entry : Entry
      entry = (estimate_in (key_at weight row), state, had.0)

      live : is_open_at weight (row_in entries state) (key_at weight row) ≡ true
      live =
          ap (λ old. is_open_at weight old (key_at weight row)) found
          ∙ (ap (λ status. is_opened status && same_key (key_at weight row) (key_at weight row)) opened ∙ key_same (key_at weight row))

      which : (b : Bool) → same_key sum (sum_of (key_at weight row)) ≡ b → has_at new (sum_of (key_at weight row)) entry ≡ true
      which true same =
          let is : sum ≡ sum_of (key_at weight row) = key_found sum (sum_of (key_at weight row)) same in
          let joins : key_with sum entry.0 ≡ key_at weight row = ap (λ k. key_with k entry.0) is ∙ key_joins (key_at weight row) in
          let here : is_open_at weight (row_in entries state) (key_with sum entry.0) ≡ true = ap (λ k. is_open_at weight (row_in entries state) k) joins ∙ live in
          ap (λ found. has_in found entry) (at_sum (sum_of (key_at weight row)) same) ∙ left entry here (subst (λ k. has_at old k entry ≡ true) (sym is) had.1)
      which false other = ap (λ found. has_in found entry) (at_other (sum_of (key_at weight row)) other) ∙ had.1

  -- each entry of the bucket is another one, or has the place of its state's row
  pub set_placed : (entries : List (ℕ × Row)) → ((entry : Entry) → has_entry bucket entry ≡ true → (IsPlaced entries entry) ⊎ (has_at old sum entry ≡ true))
      → HasPlaces entries old → HasPlaces entries new
  set_placed entries from placed q entry has = which (same_key sum q) refl
    where
      one : (IsPlaced entries entry) ⊎ (has_at old sum entry ≡ true) → IsPlaced entries entry
      one (inl here) = here
      one (inr had) = placed sum entry had

      which : (b : Bool) → same_key sum q ≡ b → IsPlaced entries entry
      which true same = one (from entry (sym (ap (λ found. has_in found entry) (at_sum q same)) ∙ has))
      which false other = placed q entry (sym (ap (λ found. has_in found entry) (at_other q other)) ∙ has)

  -- an entry comes into the bucket, with the place of its state's row
  pub set_pushed : (entries : List (ℕ × Row)) (added : Entry) → IsPlaced entries added → ((entry : Entry) → has_entry bucket entry ≡ true → (entry ≡ added) ⊎ (has_at old sum entry ≡ true))
      → HasPlaces entries old → HasPlaces entries new
  set_pushed entries added here from placed = set_placed entries (λ entry has. which entry (from entry has)) placed
    where
      which : (entry : Entry) → (entry ≡ added) ⊎ (has_at old sum entry ≡ true) → (IsPlaced entries entry) ⊎ (has_at old sum entry ≡ true)
      which entry (inl is) = inl (subst (λ (e : Entry). IsPlaced entries e) (sym is) here)
      which entry (inr had) = inr had

-- ---- the first bucket

pub set_first : (test : Key → Bool) (list : List (Key × Bucket)) (bucket : Bucket) → first_key_of (set_value test list bucket) ≡ first_key_of list
set_first test [] bucket = refl
set_first test (first ∷ list) bucket = which (test first.0)
  where
    which : (b : Bool) → first_key_of (cond b ((first.0, bucket) ∷ list) (first ∷ set_value test list bucket)) ≡ Some first.0
    which true = refl
    which false = refl

module _ (weight : Weight) (entries : List (ℕ × Row)) where
  -- a bucket is written with the top that it had
  pub tidy_same : (test : Key → Bool) (list : List (Key × Bucket)) (was bucket : Bucket) → lookup test list ≡ Some was → top_of bucket ≡ top_of was
      → is_tidy weight entries (set_value test list bucket) ≡ is_tidy weight entries list
  tidy_same test [] was bucket found same = refl
  tidy_same test (first ∷ list) was bucket found same = which (test first.0) found
    where
      which : (b : Bool) → cond b (Some first.1) (lookup test list) ≡ Some was
          → is_tidy weight entries (cond b ((first.0, bucket) ∷ list) (first ∷ set_value test list bucket)) ≡ is_led weight entries first.0 (top_of first.1)
      which true e = let is : first.1 ≡ was = cc in ap (λ top. is_led weight entries first.0 top) (same ∙ ap (λ (b : Bucket). top_of b) (sym is))
      which false e = refl

  pub tidy_led : (sum : Key) (list : List (Key × Bucket)) (bucket : Bucket) → first_key_of list ≡ Some sum → is_led weight entries sum (top_of bucket) ≡ true
      → is_tidy weight entries (set_value (is_at (key_cmp sum)) list bucket) ≡ true
  tidy_led sum [] bucket first led = cc
  tidy_led sum (entry ∷ list) bucket first led =
      let same : entry.0 ≡ sum = cc in
      ap (λ b. is_tidy weight entries (cond b ((entry.0, bucket) ∷ list) (entry ∷ set_value (is_at (key_cmp sum)) list bucket))) (subst (λ k. same_key sum k ≡ true) (sym same) (key_same sum))
      ∙ subst (λ k. is_led weight entries k (top_of bucket) ≡ true) (sym same) led

  -- a bucket has the top that it had, or an Opened row of its sum
  pub tidy_pushed : (sum : Key) (list : List (Key × Bucket)) (was bucket : Bucket) → lookup (is_at (key_cmp sum)) list ≡ Some was
      → (is_led weight entries sum (top_of was) ≡ true → is_led weight entries sum (top_of bucket) ≡ true)
      → is_tidy weight entries list ≡ true → is_tidy weight entries (set_value (is_at (key_cmp sum)) list bucket) ≡ true
  tidy_pushed sum [] was bucket found led tidy = refl
  tidy_pushed sum (first ∷ list) was bucket found led tidy = which (same_key sum first.0) refl found
    where
      which : (b : Bool) → same_key sum first.0 ≡ b → cond b (Some first.1) (lookup (is_at (key_cmp sum)) list) ≡ Some was
          → is_tidy weight entries (cond b ((first.0, bucket) ∷ list) (first ∷ set_value (is_at (key_cmp sum)) list bucket)) ≡ true
      which true same e =
          let is : first.1 ≡ was = cc in
          let one : sum ≡ first.0 = key_found sum first.0 same in
          let had : is_led weight entries sum (top_of was) ≡ true =
          subst (λ (b : Bucket). is_led weight entries sum (top_of b) ≡ true) is (subst (λ k. is_led weight entries k (top_of first.1) ≡ true) (sym one) tidy) in
          subst (λ k. is_led weight entries k (top_of bucket) ≡ true) one (led had)
      which false other e = tidy

  pub tidy_new : (sum : Key) (list : List (Key × Bucket)) (bucket : Bucket) → is_led weight entries sum (top_of bucket) ≡ true
      → is_tidy weight entries list ≡ true → is_tidy weight entries (insert_entry key_cmp list sum bucket) ≡ true
  tidy_new sum [] bucket led tidy = led
  tidy_new sum (first ∷ list) bucket led tidy = which (key_cmp sum first.0) refl
    where
      which : (o : Ordering) → key_cmp sum first.0 ≡ o
          → is_tidy weight entries (match_ordering o ((sum, bucket) ∷ first ∷ list) ((first.0, bucket) ∷ list) (first ∷ insert_entry key_cmp list sum bucket)) ≡ true
      which Less e = led
      which Equal e = subst (λ k. is_led weight entries k (top_of bucket) ≡ true) (key_found sum first.0 (ap is_eq e)) led
      which Greater e = tidy

  -- the top is what it was, or an Opened row of this sum
  pub led_pushed : (sum : Key) (old new : Option Entry) (entry : Entry) → is_open_at weight (row_in entries entry.1) (key_with sum entry.0) ≡ true
      → (new ≡ old) ⊎ (new ≡ Some entry) → is_led weight entries sum old ≡ true → is_led weight entries sum new ≡ true
  led_pushed sum old new entry live (inl e) led = ap (λ top. is_led weight entries sum top) e ∙ led
  led_pushed sum old new entry live (inr e) led = ap (λ top. is_led weight entries sum top) e ∙ live

  -- the entry is alone in its bucket
  pub led_alone : (sum : Key) (bucket : Bucket) (entry : Entry) → is_open_at weight (row_in entries entry.1) (key_with sum entry.0) ≡ true
      → (top_of bucket ≡ None) ⊎ (top_of bucket ≡ Some entry) → has_entry bucket entry ≡ true → IsTop (has_entry bucket) (top_of bucket) → is_led weight entries sum (top_of bucket) ≡ true
  led_alone sum bucket entry live (inl e) member top = let none : IsTop (has_entry bucket) None = subst (λ t. IsTop (has_entry bucket) t) e top in absurd (true≢false (sym member ∙ none.none entry))
  led_alone sum bucket entry live (inr e) member top = ap (λ top. is_led weight entries sum top) e ∙ live

-- ---- entries that leave a bucket

module _ (weight : Weight) (entries : List (ℕ × Row)) (sum : Key) where
  pub led_by : (bucket : Bucket) (entry : Entry) → top_of bucket ≡ Some entry → is_open_at weight (row_in entries entry.1) (key_with sum entry.0) ≡ true → is_led weight entries sum (top_of bucket) ≡ true
  led_by bucket entry top live = ap (λ found. is_led weight entries sum found) top ∙ live

  -- the bucket loses its top, which isn't Opened at its sum and estimate
  pub pop_keeps : (old new : Bucket) (top : Entry) → top_of old ≡ Some top → is_open_at weight (row_in entries top.1) (key_with sum top.0) ≡ false
      → ((other : Entry) → has_entry old other ≡ true → (top_of old ≡ Some other) ⊎ (has_entry new other ≡ true)) → KeepsLive weight entries sum old new
  pop_keeps old new top first off left other live had = which (left other had)
    where
      which : (top_of old ≡ Some other) ⊎ (has_entry new other ≡ true) → has_entry new other ≡ true
      which (inl e) =
          let same : Some top ≡ Some other = sym first ∙ e in
          let is : top ≡ other = cc in
          absurd (true≢false (sym live ∙ (ap (λ (it : Entry). is_open_at weight (row_in entries it.1) (key_with sum it.0)) (sym is) ∙ off)))
      which (inr m) = m

-- the first entry has a state
pub top_state : (bucket : Bucket) (first : ℕ × ℕ) → Some first ≡ option_map estimate_and_place (top_of bucket) → (state : ℕ) × (top_of bucket ≡ Some (first.0, state, first.1))
top_state bucket first is = which (top_of bucket) refl is
  where
    which : (top : Option Entry) → top_of bucket ≡ top → Some first ≡ option_map estimate_and_place top → (state : ℕ) × (top_of bucket ≡ Some (first.0, state, first.1))
    which None e f = cc
    which (Some top) e f =
        let same : estimate_and_place top ≡ first = cc in
        (top.1, e ∙ (ap (λ (p : ℕ × ℕ). Some (p.0, top.1, p.1)) same))

-- a bucket without a first entry has none
pub top_none : (bucket : Bucket) → None ≡ option_map estimate_and_place (top_of bucket) → IsTop (has_entry bucket) (top_of bucket) → (entry : Entry) → has_entry bucket entry ≡ false
top_none bucket none top = which (top_of bucket) none top
  where
    which : (found : Option Entry) → None ≡ option_map estimate_and_place found → IsTop (has_entry bucket) found → (entry : Entry) → has_entry bucket entry ≡ false
    which None e t = t.none
    which (Some found) e t = cc

-- whether the row at an entry's place is Opened at the entry's key
pub live_is : (weight : Weight) (entries : List (ℕ × Row)) (sum key : Key) (h state : ℕ) (costs : Option (ℕ × Estimate)) (is : Bool) → key ≡ key_with sum h → costs ≡ opened_costs (row_in entries state)
    → is ≡ has_key weight costs key → is_open_at weight (row_in entries state) (key_with sum h) ≡ is
live_is weight entries sum key h state costs is same read compared =
    ap (λ k. is_open_at weight (row_in entries state) k) (sym same)
    ∙ (sym (key_by_costs weight (row_in entries state) key) ∙ (ap (λ c. has_key weight c key) (sym read) ∙ sym compared))

-- ---- the first bucket, which is empty, is taken out

module _ (old new : Buckets) (sum : Key) where
  pub pop_filed : (weight : Weight) (entries : List (ℕ × Row)) (popped : Option (Key × Bucket)) → first_key_of old.entries ≡ Some sum → ((entry : Entry) → has_at old sum entry ≡ false)
      → IfSome popped (λ first. old.entries ≡ first ∷ new.entries) → IfSome popped (λ first. Updates key_cmp old new first.0 None) → IfNone popped (IsUnchanged old new)
      → HasFiled weight entries old → HasFiled weight entries new
  pop_filed weight entries None first empty removal updates same filed state row found opened =
      let key = key_at weight row in
      let had = filed state row found opened in
      (had.0, ap (λ list. has_in (lookup (is_at (key_cmp (sum_of key))) list) (estimate_in key, state, had.0)) same ∙ had.1)
  pop_filed weight entries (Some taken) first empty removal updates same filed state row found opened = (had.0, which (same_key taken.0 (sum_of (key_at weight row))) refl)
    where
      had : HasState old (key_at weight row) state
      had = filed state row found opened

      entry : Entry
      entry = (estimate_in (key_at weight row), state, had.0)

      is_sum : taken.0 ≡ sum
      is_sum = let e : Some taken.0 ≡ Some sum = sym (ap first_key_of removal) ∙ first in cc

      is : (b : Bool) → same_key taken.0 (sum_of (key_at weight row)) ≡ b → get key_cmp new (sum_of (key_at weight row)) ≡ cond b None (get key_cmp old (sum_of (key_at weight row)))
      is b e = updates.0 (sum_of (key_at weight row)) ∙ ap (λ t. cond t None (get key_cmp old (sum_of (key_at weight row)))) e

      which : (b : Bool) → same_key taken.0 (sum_of (key_at weight row)) ≡ b → has_at new (sum_of (key_at weight row)) entry ≡ true
      which true e =
          let at : sum_of (key_at weight row) ≡ sum = sym (key_found taken.0 (sum_of (key_at weight row)) e) ∙ is_sum in
          absurd (true≢false (sym had.1 ∙ (ap (λ k. has_at old k entry) at ∙ empty entry)))
      which false e = ap (λ f. has_in f entry) (is false e) ∙ had.1

  pub pop_placed : (entries : List (ℕ × Row)) (popped : Option (Key × Bucket)) → IfSome popped (λ first. Updates key_cmp old new first.0 None) → IfNone popped (IsUnchanged old new)
      → HasPlaces entries old → HasPlaces entries new
  pop_placed entries None updates same placed q entry has = placed q entry (sym (ap (λ list. has_in (lookup (is_at (key_cmp q)) list) entry) same) ∙ has)
  pop_placed entries (Some taken) updates same placed q entry has = which (same_key taken.0 q) refl
    where
      is : (b : Bool) → same_key taken.0 q ≡ b → has_in (cond b None (get key_cmp old q)) entry ≡ true
      is b e = sym (ap (λ f. has_in f entry) (updates.0 q ∙ ap (λ t. cond t None (get key_cmp old q)) e)) ∙ has

      which : (b : Bool) → same_key taken.0 q ≡ b → IsPlaced entries entry
      which true e = absurd (true≢false (sym (is true e)))
      which false e = placed q entry (is false e)

-- ---- the rows change

pub kept_filed : (weight : Weight) (entries : List (ℕ × Row)) (old new : Buckets) → KeepsEntries old new → HasFiled weight entries old → HasFiled weight entries new
kept_filed weight entries old new kept filed state row found opened =
    let had = filed state row found opened in
    (had.0, kept (sum_of (key_at weight row)) (estimate_in (key_at weight row), state, had.0) had.1)

module _ (weight : Weight) (entries after : List (ℕ × Row)) (here : ℕ) (row : Row) (sets : (state : ℕ) → row_in after state ≡ cond (nat_eq here state) (Some row) (row_in entries state)) where
  is_row : (b : Bool) (state : ℕ) (other : Row) → nat_eq here state ≡ b → row_in after state ≡ Some other → cond b (Some row) (row_in entries state) ≡ Some other
  is_row b state other e found = sym (sets state ∙ ap (λ t. cond t (Some row) (row_in entries state)) e) ∙ found

  pub put_filed : (old new : Buckets) (key : Key) → key ≡ key_at weight row → HasState new key here → KeepsEntries old new → HasFiled weight entries old → HasFiled weight after new
  put_filed old new key is has kept filed state other found opened = which (nat_eq here state) refl
    where
      which : (b : Bool) → nat_eq here state ≡ b → HasState new (key_at weight other) state
      which true e =
          let same : Some row ≡ Some other = is_row true state other e found in
          let one : row ≡ other = cc in
          subst (λ s. HasState new (key_at weight other) s) (equal here state e) (subst (λ k. HasState new k here) (is ∙ ap (key_at weight) one) has)
      which false e =
          let had = filed state other (is_row false state other e found) opened in
          (had.0, kept (sum_of (key_at weight other)) (estimate_in (key_at weight other), state, had.0) had.1)

  pub settled_filed : (buckets : Buckets) → is_opened row.status ≡ false → HasFiled weight entries buckets → HasFiled weight after buckets
  settled_filed buckets settled filed state other found opened = which (nat_eq here state) refl
    where
      which : (b : Bool) → nat_eq here state ≡ b → HasState buckets (key_at weight other) state
      which true e =
          let same : Some row ≡ Some other = is_row true state other e found in
          let one : row ≡ other = cc in
          absurd (true≢false (sym (ap is_opened (ap (λ (r : Row). r.status) one ∙ opened)) ∙ settled))
      which false e = filed state other (is_row false state other e found) opened

  -- the row is a new one's
  pub tidy_more : (buckets : Buckets) → row_in entries here ≡ None → IsTidy weight entries buckets → IsTidy weight after buckets
  tidy_more buckets absent tidy = first buckets.entries tidy
    where
      at_row : (b : Bool) (state : ℕ) (key : Key) → nat_eq here state ≡ b → is_open_at weight (row_in entries state) key ≡ true → is_open_at weight (cond b (Some row) (row_in entries state)) key ≡ true
      at_row true state key e live =
          absurd (true≢false (sym live ∙ (ap (λ s. is_open_at weight (row_in entries s) key) (sym (equal here state e)) ∙ ap (λ found. is_open_at weight found key) absent)))
      at_row false state key e live = live

      led : (top : Option Entry) (sum : Key) → is_led weight entries sum top ≡ true → is_led weight after sum top ≡ true
      led None sum l = l
      led (Some top) sum l = ap (λ found. is_open_at weight found (key_with sum top.0)) (sets top.1) ∙ at_row (nat_eq here top.1) top.1 (key_with sum top.0) refl l

      first : (list : List (Key × Bucket)) → is_tidy weight entries list ≡ true → is_tidy weight after list ≡ true
      first [] t = t
      first (bucket ∷ list) t = led (top_of bucket.1) bucket.0 t

  pub live_row : (key : Key) → key ≡ key_at weight row → row.status ≡ Opened → is_open_at weight (row_in after here) key ≡ true
  live_row key is opened =
      ap (λ found. is_open_at weight found key) (sets here ∙ ap (λ b. cond b (Some row) (row_in entries here)) (equal_self here))
      ∙ (ap (λ status. is_opened status && same_key (key_at weight row) key) opened ∙ subst (λ k. same_key k key ≡ true) is (key_same key))

-- the row of a state that isn't on top of the first bucket was changed
pub tidy_other : (weight : Weight) (entries after : List (ℕ × Row)) (here : ℕ) (row : Row) → ((state : ℕ) → row_in after state ≡ cond (nat_eq here state) (Some row) (row_in entries state))
    → (list : List (Key × Bucket)) → is_tidy weight entries list ≡ true → place_on_top list here ≡ None → is_tidy weight after list ≡ true
tidy_other weight entries after here row sets [] tidy off = refl
tidy_other weight entries after here row sets (first ∷ list) tidy off = led (top_of first.1) tidy off
  where
    other : (b : Bool) (place : ℕ) → (if b then Some place else None) ≡ None → b ≡ false
    other true place e = cc
    other false place e = refl

    led : (top : Option Entry) → is_led weight entries first.0 top ≡ true → place_if_of top here ≡ None → is_led weight after first.0 top ≡ true
    led None l o = absurd (true≢false (sym l))
    led (Some top) l o =
        ap (λ found. is_open_at weight found (key_with first.0 top.0))
        (sets top.1 ∙ ap (λ b. cond b (Some row) (row_in entries top.1)) (equal_swap here top.1 ∙ other (nat_eq top.1 here) top.2 o)) ∙ l

-- ---- places

-- what the first bucket has on top has the place of its state's row
pub top_placed : (entries : List (ℕ × Row)) (list : List (Key × Bucket)) (here place : ℕ)
    → ((sum : Key) (entry : Entry) → has_in (lookup (is_at (key_cmp sum)) list) entry ≡ true → IsPlaced entries entry)
    → place_on_top list here ≡ Some place → (row : Row) × (slice_get entries place ≡ Some (here, row))
top_placed entries [] here place placed on = cc
top_placed entries (first ∷ list) here place placed on = led (top_of first.1) refl on
  where
    led : (top : Option Entry) → top_of first.1 ≡ top → place_if_of top here ≡ Some place → (row : Row) × (slice_get entries place ≡ Some (here, row))
    led None e o = cc
    led (Some top) e o = which (nat_eq top.1 here) refl o
      where
        member : has_in (lookup (is_at (key_cmp first.0)) (first ∷ list)) top ≡ true
        member = ap (λ b. has_in (cond b (Some first.1) (lookup (is_at (key_cmp first.0)) list)) top) (key_same first.0) ∙ top_member first.1 top e

        which : (b : Bool) → nat_eq top.1 here ≡ b → (if b then Some top.2 else None) ≡ Some place → (row : Row) × (slice_get entries place ≡ Some (here, row))
        which true same p =
            let is : top.2 ≡ place = cc in
            let at = placed first.0 top member in
            (at.0, subst (λ n. slice_get entries n ≡ Some (here, at.0)) is (subst (λ s. slice_get entries top.2 ≡ Some (s, at.0)) (equal top.1 here same) at.1))
        which false same p = cc

-- places stay if a row is put
pub put_places : (entries : List (ℕ × Row)) (state : ℕ) (row : Row) (buckets : Buckets) → HasPlaces entries buckets → HasPlaces (IndexMap.insert_entry nat_eq entries state row) buckets
put_places entries state row buckets placed sum entry has = let at = placed sum entry has in put_place entries state row entry.2 entry.1 at.0 at.1
