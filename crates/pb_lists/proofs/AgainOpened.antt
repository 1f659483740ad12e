-- The rows of a bundle after it is opened again.
use Rattle.std.proofs.Common.{◌≡◌, ◌≤◌, ◌<◌, ◌⊎◌, inl, inr, ℕ, ◌+◌, zero, suc, length, Bool, true, false, cond, Option, Some, None, List, [], ◌∷◌, ◌&&◌, refl, sym, ap, ◌∙◌, subst, arith, nat_eq, slice_get}
use Rattle.std.proofs.lemmas.Bool.{eq-eqb, cases_lt}
use Rattle.std.proofs.lemmas.Cmp.{nat_eq_equiv}
use Rattle.std.proofs.lemmas.Bool.Decides.{nat_tests}
use Rattle.std.proofs.lemmas.Option.{none-some, same_Some}
use Rattle.std.proofs.lemmas.Map.Entries.{place_from_lookup, lookup_from_place}
use Rattle.std.specs.List.{IsDistinct}
use Rattle.std.specs.Map.{lookup, keys_of}
use Rattle.std.specs.BTreeMap.{is_at}
use Rattle.indexmap.specs.IndexMap.{insert_entry, set_value_at}
use Rattle.pb_model.specs.declared.key.Key.{Key}
use Rattle.pb_model.specs.declared.row.Estimate.{Estimate}
use Rattle.pb_model.specs.declared.row.Estimate.TheVariants.{Cost, Dead}
use Rattle.pb_model.specs.declared.row.Row.{Row}
use Rattle.pb_model.specs.declared.row.Status.{Status}
use Rattle.pb_model.specs.declared.row.Status.TheVariants.{Opened, Closed, Cut}
use Rattle.pb_model.specs.Weight.{Weight}
use Rattle.pb_model.specs.Work.{reopened_status, reopened_row}
use Rattle.pb_model.specs.Key.{key_of}
use Rattle.pb_model.specs.KeyOrder.{key_cmp, same_key}
use Rattle.pb_model.proofs.Callers.{by_cases, equal}
use Rattle.pb_lists.specs.Bundle.{row_in}
use Rattle.pb_lists.specs.Fields.{key_at, is_opened, is_open_at, sum_of, estimate_in}
use Rattle.pb_lists.specs.Heaped.{Entry}
use Rattle.pb_lists.specs.Buckets.{Buckets, has_at, has_in, is_tidy, IsTidy, HasState, HasFiled, KeepsEntries}
use Rattle.pb_lists.specs.Reopened.{reopened_at, reopened_entries}
use Rattle.pb_lists.proofs.Filing.{key_same}
use Rattle.pb_lists.proofs.Tables.{put_at}

module _ (weight : Weight) (bound : ℕ) where
  abbrev pub again : List (ℕ × Row) → List (ℕ × Row)
  again = reopened_entries weight bound

  -- the row of a state
  pub reopened_found : (entries : List (ℕ × Row)) (state : ℕ) → row_in (again entries) state ≡ reopened_row weight (Some bound) (row_in entries state)
  reopened_found [] state = refl
  reopened_found (entry ∷ entries) state = at (nat_eq state entry.0) (reopened_found entries state)
    where
      at : (here : Bool) → row_in (again entries) state ≡ reopened_row weight (Some bound) (row_in entries state)
          → cond here (Some (reopened_at weight bound entry.1)) (row_in (again entries) state) ≡ reopened_row weight (Some bound) (cond here (Some entry.1) (row_in entries state))
      at true next = refl
      at false next = next

  -- the row at a place
  pub reopened_place : (entries : List (ℕ × Row)) (place state : ℕ) (row : Row) → slice_get entries place ≡ Some (state, row)
      → slice_get (again entries) place ≡ Some (state, reopened_at weight bound row)
  reopened_place [] place state row found = cc
  reopened_place (entry ∷ entries) zero state row found = let same : entry ≡ (state, row) = cc in ap (λ (e : ℕ × Row). Some (e.0, reopened_at weight bound e.1)) same
  reopened_place (entry ∷ entries) (suc place) state row found = reopened_place entries place state row found

  pub within : (entries : List (ℕ × Row)) (place state : ℕ) (row : Row) → slice_get (again entries) place ≡ Some (state, row) → place < length entries
  within [] place state row found = absurd (none-some (state, row) found)
  within (entry ∷ entries) zero state row found = omega arith
  within (entry ∷ entries) (suc place) state row found = let less = within entries place state row found in omega (arith, less)

  -- the row that was at the place
  pub before : (entries : List (ℕ × Row)) (place state : ℕ) (row : Row) → slice_get (again entries) place ≡ Some (state, row)
      → (was : Row) × (slice_get entries place ≡ Some (state, was)) × (row ≡ reopened_at weight bound was)
  before [] place state row found = absurd (none-some (state, row) found)
  before (entry ∷ entries) zero state row found =
      let same : (entry.0, reopened_at weight bound entry.1) ≡ (state, row) = same_Some (entry.0, reopened_at weight bound entry.1) (state, row) found in
      (entry.1, ap (λ (e : ℕ × Row). Some (e.0, entry.1)) same, sym (ap (λ (e : ℕ × Row). e.1) same))
  before (entry ∷ entries) (suc place) state row found = before entries place state row found

  -- a row that isn't Cut stays
  pub stays : (row : Row) → (row.status ≡ Cut → ⊥) → reopened_at weight bound row ≡ row
  stays row other = ap (λ s. record row { status = s }) (same row.status other)
    where
      same : (status : Status) → (status ≡ Cut → ⊥) → reopened_status weight bound row.g row.estimate status ≡ status
      same Opened other = refl
      same Closed other = refl
      same Cut other = absurd (other refl)

  -- ---- the entries that are written so far

  -- the first so many rows are opened again
  abbrev pub so_far : (count : ℕ) → List (ℕ × Row) → List (ℕ × Row)
  so_far zero entries = entries
  so_far (suc count) [] = []
  so_far (suc count) (entry ∷ entries) = (entry.0, reopened_at weight bound entry.1) ∷ so_far count entries

  -- all rows are opened again
  pub so_far_all : (count : ℕ) (entries : List (ℕ × Row)) → length entries ≤ count → so_far count entries ≡ again entries
  so_far_all zero [] past = refl
  so_far_all zero (entry ∷ entries) past = absurd (omega (arith, past))
  so_far_all (suc count) [] past = refl
  so_far_all (suc count) (entry ∷ entries) past = ap (λ rest. (entry.0, reopened_at weight bound entry.1) ∷ rest) (so_far_all count entries (omega (arith, past)))

  pub so_far_place : (count : ℕ) (entries : List (ℕ × Row)) → slice_get (so_far count entries) count ≡ slice_get entries count
  so_far_place zero entries = refl
  so_far_place (suc count) [] = refl
  so_far_place (suc count) (entry ∷ entries) = so_far_place count entries

  pub so_far_length : (count : ℕ) (entries : List (ℕ × Row)) → length (so_far count entries) ≡ length entries
  so_far_length zero entries = refl
  so_far_length (suc count) [] = refl
  so_far_length (suc count) (entry ∷ entries) = ap suc (so_far_length count entries)

  pub so_far_keys : (count : ℕ) (entries : List (ℕ × Row)) → keys_of (so_far count entries) ≡ keys_of entries
  so_far_keys zero entries = refl
  so_far_keys (suc count) [] = refl
  so_far_keys (suc count) (entry ∷ entries) = ap (λ keys. entry.0 ∷ keys) (so_far_keys count entries)

  so_far_next : (count : ℕ) (entries : List (ℕ × Row)) (state : ℕ) (row : Row) → slice_get entries count ≡ Some (state, row)
      → set_value_at (so_far count entries) count (reopened_at weight bound row) ≡ so_far (suc count) entries
  so_far_next zero [] state row found = cc
  so_far_next zero (entry ∷ entries) state row found =
      let same : entry ≡ (state, row) = cc in ap (λ (e : ℕ × Row). (entry.0, reopened_at weight bound e.1) ∷ entries) (sym same)
  so_far_next (suc count) [] state row found = cc
  so_far_next (suc count) (entry ∷ entries) state row found = ap (λ rest. (entry.0, reopened_at weight bound entry.1) ∷ rest) (so_far_next count entries state row found)

  -- one more row is written
  pub so_far_put : (count : ℕ) (entries : List (ℕ × Row)) (state : ℕ) (row : Row) → IsDistinct nat_eq (keys_of entries) → slice_get entries count ≡ Some (state, row)
      → insert_entry nat_eq (so_far count entries) state (reopened_at weight bound row) ≡ so_far (suc count) entries
  so_far_put count entries state row distinct found =
      sym (put_at (so_far count entries) state row (reopened_at weight bound row) count (so_far_place count entries ∙ found) (subst (λ keys. IsDistinct nat_eq keys) (sym (so_far_keys count entries)) distinct))
      ∙ so_far_next count entries state row found

  -- ---- the rows that are filed so far

  -- each Opened row at the first so many places is in the bucket of its key's sum
  abbrev pub AreFiled : List (ℕ × Row) → Buckets → (count : ℕ) → Type 0
  AreFiled entries buckets count = (place state : ℕ) (row : Row) → place < count → slice_get (again entries) place ≡ Some (state, row) → row.status ≡ Opened → HasState buckets (key_at weight row) state

  pub filed_next : (entries : List (ℕ × Row)) (old new : Buckets) (count : ℕ) → KeepsEntries old new
      → ((state : ℕ) (row : Row) → slice_get (again entries) count ≡ Some (state, row) → row.status ≡ Opened → HasState new (key_at weight row) state)
      → AreFiled entries old count → AreFiled entries new (count + 1)
  filed_next entries old new count kept here filed place state row less at opened = by_cases (nat_eq place count)
      (λ e. here state row (ap (slice_get (again entries)) (sym (equal place count e)) ∙ at) opened)
      (λ e. let had = filed place state row (grind (arith, nat_tests, less, e)) at opened in
      (had.0, kept (sum_of (key_at weight row)) (estimate_in (key_at weight row), state, had.0) had.1))

  pub filed_fewer : (entries : List (ℕ × Row)) (buckets : Buckets) (count fewer : ℕ) → fewer ≤ count → AreFiled entries buckets count → AreFiled entries buckets fewer
  filed_fewer entries buckets count fewer le filed place state row less = filed place state row (omega (arith, le, less))

  pub all_filed : (entries : List (ℕ × Row)) (buckets : Buckets) → AreFiled entries buckets (length entries) → HasFiled weight (again entries) buckets
  all_filed entries buckets filed state row found opened =
      let place = place_from_lookup (nat_eq state) (again entries) row found in
      let same : state ≡ place.1 = equal state place.1 place.3 in
      let at : slice_get (again entries) place.0 ≡ Some (state, row) = place.2 ∙ ap (λ key. Some (key, row)) (sym same) in
      filed place.0 state row (within entries place.0 state row at) at opened

  -- ---- one row that is filed

  module _ (entries : List (ℕ × Row)) (place state : ℕ) (row : Row) (costs : ℕ × Estimate × Status) (found : slice_get entries place ≡ Some (state, row)) (costs_are : costs ≡ (row.g, row.estimate, row.status)) where
    status_is : reopened_status weight bound costs.0 costs.1 costs.2 ≡ (reopened_at weight bound row).status
    status_is = ap (λ (c : ℕ × Estimate × Status). reopened_status weight bound c.0 c.1 c.2) costs_are

    -- the row at the place is not Opened, nor will it be
    pub not_filed : (reopened_status weight bound costs.0 costs.1 costs.2 ≡ Opened → ⊥) → (other : ℕ) (new : Row) → slice_get (again entries) place ≡ Some (other, new) → new.status ≡ Opened → ⊥
    not_filed off other new at opened =
        let same : (state, reopened_at weight bound row) ≡ (other, new) = same_Some (state, reopened_at weight bound row) (other, new) (sym (reopened_place entries place state row found) ∙ at) in
        off (status_is ∙ ap (λ (e : ℕ × Row). e.1.status) same ∙ opened)

    module _ (key : Key) (key_is : key ≡ key_of weight costs.0 costs.1) where
      key_of_row : key ≡ key_at weight (reopened_at weight bound row)
      key_of_row = key_is ∙ ap (λ (c : ℕ × Estimate × Status). key_of weight c.0 c.1) costs_are

      pub filed_here : (buckets : Buckets) → HasState buckets key state → (other : ℕ) (new : Row) → slice_get (again entries) place ≡ Some (other, new) → HasState buckets (key_at weight new) other
      filed_here buckets has other new at =
          let same : (state, reopened_at weight bound row) ≡ (other, new) = same_Some (state, reopened_at weight bound row) (other, new) (sym (reopened_place entries place state row found) ∙ at) in
          subst (λ (e : ℕ × Row). HasState buckets (key_at weight e.1) e.0) same (subst (λ k. HasState buckets k state) key_of_row has)

      pub live_again : IsDistinct nat_eq (keys_of entries) → reopened_status weight bound costs.0 costs.1 costs.2 ≡ Opened → is_open_at weight (row_in (again entries) state) key ≡ true
      live_again distinct opens =
          ap (λ r. is_open_at weight r key) (reopened_found entries state ∙ ap (reopened_row weight (Some bound)) (lookup_from_place nat_eq_equiv entries place state row distinct found))
          ∙ (ap (λ s. is_opened s && same_key (key_at weight (reopened_at weight bound row)) key) (sym status_is ∙ opens)
          ∙ subst (λ k. same_key k key ≡ true) key_of_row (key_same key))

-- ---- no bucket

pub none_tidy : (weight : Weight) (entries : List (ℕ × Row)) (buckets : Buckets) → buckets.entries ≡ [] → IsTidy weight entries buckets
none_tidy weight entries buckets none = ap (is_tidy weight entries) none

pub none_at : (buckets : Buckets) → buckets.entries ≡ [] → (sum : Key) (entry : Entry) → has_at buckets sum entry ≡ false
none_at buckets none sum entry = ap (λ list. has_in (lookup (is_at (key_cmp sum)) list) entry) none
