-- Tables of rows, and wider ones with the same rows.
use Rattle.std.proofs.Common.{lit<, ◌≡◌, ◌<◌, ◌≤◌, ◌*◌, ◌^◌, ◌⊎◌, inl, inr, ℕ, zero, suc, drop, length, append_assoc, slice_get, Bool, true, false, cond, Option, Some, None, List, [], ◌∷◌, ◌++◌, refl, sym, ap, ◌∙◌, subst, arith, nat_eq}
use Rattle.std.proofs.Math.Nat.{pow-le-pow_right}
use Rattle.std.proofs.lemmas.Bool.{eq-eqb, cases_lt}
use Rattle.std.specs.Map.{lookup, keys_of, values_of}
use Rattle.std.specs.List.{AllByRecursion, IsDistinct}
use Rattle.indexmap.specs.IndexMap.{insert_entry, set_value_at}
use Rattle.pb_model.specs.declared.row.Row.{Row}
use Rattle.pb_lists.specs.Bundle.{row_in}
use Rattle.pb_lists.specs.NarrowRow.{FitsWords, FitsParent, IsNarrow}
use Rattle.pb_lists.specs.ListedRows.{HasWords, HasPlaceAt, IsAtLeast}
use Rattle.pb_model.proofs.Callers.{equal, equal_swap}

-- ---- a value that is put

pub put_found : {V : Type 0} → (state : ℕ) (value : V) (entries : List (ℕ × V)) (other : ℕ)
    → lookup (nat_eq other) (insert_entry nat_eq entries state value) ≡ cond (nat_eq state other) (Some value) (lookup (nat_eq other) entries)
put_found state value [] other = ap (λ b. cond b (Some value) None) (equal_swap other state)
put_found state value (entry ∷ entries) other = at (nat_eq state entry.0) refl (nat_eq other entry.0) refl (put_found state value entries other)
  where
    at : (here : Bool) → nat_eq state entry.0 ≡ here → (there : Bool) → nat_eq other entry.0 ≡ there
        → lookup (nat_eq other) (insert_entry nat_eq entries state value) ≡ cond (nat_eq state other) (Some value) (lookup (nat_eq other) entries)
        → lookup (nat_eq other) (cond here ((entry.0, value) ∷ entries) (entry ∷ insert_entry nat_eq entries state value)) ≡ cond (nat_eq state other) (Some value) (cond there (Some entry.1) (lookup (nat_eq other) entries))
    at true e true d next =
        ap (λ b. cond b (Some value) (lookup (nat_eq other) entries)) d
        ∙ sym (ap (λ b. cond b (Some value) (Some entry.1)) (eq-eqb state other (equal state entry.0 e ∙ sym (equal other entry.0 d))))
    at true e false d next =
        ap (λ b. cond b (Some value) (lookup (nat_eq other) entries)) d
        ∙ sym (ap (λ b. cond b (Some value) (lookup (nat_eq other) entries)) (subst (λ n. nat_eq n other ≡ false) (sym (equal state entry.0 e)) (equal_swap entry.0 other ∙ d)))
    at false e true d next =
        ap (λ b. cond b (Some entry.1) (lookup (nat_eq other) (insert_entry nat_eq entries state value))) d
        ∙ sym (ap (λ b. cond b (Some value) (Some entry.1)) (subst (λ n. nat_eq state n ≡ false) (sym (equal other entry.0 d)) e))
    at false e false d next = ap (λ b. cond b (Some entry.1) (lookup (nat_eq other) (insert_entry nat_eq entries state value))) d ∙ next

apart_at : (key : ℕ) (entries : List (ℕ × Row)) (place state : ℕ) (row : Row) → slice_get entries place ≡ Some (state, row) → AllByRecursion (λ other. nat_eq key other ≡ false) (keys_of entries) → nat_eq key state ≡ false
apart_at key [] place state row found apart = cc
apart_at key (entry ∷ entries) zero state row found apart = let same : entry ≡ (state, row) = cc in subst (λ (e : ℕ × Row). nat_eq key e.0 ≡ false) same apart.0
apart_at key (entry ∷ entries) (suc place) state row found apart = apart_at key entries place state row found apart.1

-- a row keeps its place
pub put_place : (entries : List (ℕ × Row)) (state : ℕ) (row : Row) (place other : ℕ) (was : Row) → slice_get entries place ≡ Some (other, was)
    → (now : Row) × (slice_get (insert_entry nat_eq entries state row) place ≡ Some (other, now))
put_place [] state row place other was found = cc
put_place (entry ∷ entries) state row zero other was found = at (nat_eq state entry.0)
  where
    at : (here : Bool) → (now : Row) × (slice_get (cond here ((entry.0, row) ∷ entries) (entry ∷ insert_entry nat_eq entries state row)) 0 ≡ Some (other, now))
    at true = let same : entry ≡ (other, was) = cc in (row, ap (λ (e : ℕ × Row). Some (e.0, row)) same)
    at false = (was, found)
put_place (entry ∷ entries) state row (suc place) other was found = at (nat_eq state entry.0) (put_place entries state row place other was found)
  where
    at : (here : Bool) → ((now : Row) × (slice_get (insert_entry nat_eq entries state row) place ≡ Some (other, now)))
        → (now : Row) × (slice_get (cond here ((entry.0, row) ∷ entries) (entry ∷ insert_entry nat_eq entries state row)) (suc place) ≡ Some (other, now))
    at true next = (was, found)
    at false next = next

-- a new row goes last
pub put_new : (entries : List (ℕ × Row)) (state : ℕ) (row : Row) → row_in entries state ≡ None → slice_get (insert_entry nat_eq entries state row) (length entries) ≡ Some (state, row)
put_new [] state row absent = refl
put_new (entry ∷ entries) state row absent = at (nat_eq state entry.0) absent (λ a. put_new entries state row a)
  where
    at : (here : Bool) → cond here (Some entry.1) (row_in entries state) ≡ None → (row_in entries state ≡ None → slice_get (insert_entry nat_eq entries state row) (length entries) ≡ Some (state, row))
        → slice_get (cond here ((entry.0, row) ∷ entries) (entry ∷ insert_entry nat_eq entries state row)) (suc (length entries)) ≡ Some (state, row)
    at true a next = cc
    at false a next = next a

-- a state without a row has none after a row is written at a place
pub absent_at : (entries : List (ℕ × Row)) (place : ℕ) (row : Row) (other : ℕ) → row_in entries other ≡ None → row_in (set_value_at entries place row) other ≡ None
absent_at [] place row other absent = absent
absent_at (entry ∷ entries) zero row other absent = at (nat_eq other entry.0) absent
  where
    at : (here : Bool) → cond here (Some entry.1) (row_in entries other) ≡ None → cond here (Some row) (row_in entries other) ≡ None
    at true a = cc
    at false a = a
absent_at (entry ∷ entries) (suc place) row other absent = at (nat_eq other entry.0) absent (λ a. absent_at entries place row other a)
  where
    at : (here : Bool) → cond here (Some entry.1) (row_in entries other) ≡ None → (row_in entries other ≡ None → row_in (set_value_at entries place row) other ≡ None)
        → cond here (Some entry.1) (row_in (set_value_at entries place row) other) ≡ None
    at true a next = cc
    at false a next = next a

pub value_at : (entries : List (ℕ × Row)) (place state : ℕ) (row : Row) → slice_get entries place ≡ Some (state, row) → slice_get (values_of entries) place ≡ Some row
value_at [] place state row found = cc
value_at (entry ∷ entries) zero state row found = let same : entry ≡ (state, row) = cc in ap (λ (e : ℕ × Row). Some e.1) same
value_at (entry ∷ entries) (suc place) state row found = value_at entries place state row found

-- the row at a place is put by writing it there
pub put_at : (entries : List (ℕ × Row)) (state : ℕ) (was row : Row) (place : ℕ) → slice_get entries place ≡ Some (state, was) → IsDistinct nat_eq (keys_of entries)
    → set_value_at entries place row ≡ insert_entry nat_eq entries state row
unfolding IsDistinct
put_at [] state was row place found distinct = cc
put_at (entry ∷ entries) state was row zero found distinct =
    let same : entry ≡ (state, was) = cc in
    sym (ap (λ b. cond b ((entry.0, row) ∷ entries) (entry ∷ insert_entry nat_eq entries state row)) (eq-eqb state entry.0 (ap (λ (e : ℕ × Row). e.0) (sym same))))
put_at (entry ∷ entries) state was row (suc place) found distinct =
    ap (λ others. entry ∷ others) (put_at entries state was row place found distinct.1)
    ∙ sym (ap (λ b. cond b ((entry.0, row) ∷ entries) (entry ∷ insert_entry nat_eq entries state row)) (equal_swap state entry.0 ∙ apart_at entry.0 entries place state was found distinct.0))

-- ---- words

pub words_put : (width state : ℕ) (row : Row) (entries : List (ℕ × Row)) → FitsWords width state → HasWords width entries → HasWords width (insert_entry nat_eq entries state row)
words_put width state row entries word words other above =
    put_found state row entries other ∙ (ap (λ b. cond b (Some row) (lookup (nat_eq other) entries)) (which (nat_eq state other) refl) ∙ words other above)
  where
    which : (b : Bool) → nat_eq state other ≡ b → nat_eq state other ≡ false
    which true e = let same = equal state other e in absurd (omega arith)
    which false e = e

-- a state that has a row in a table of so many words fits them
pub fits_found : (width state : ℕ) (row : Row) (entries : List (ℕ × Row)) → HasWords width entries → row_in entries state ≡ Some row → FitsWords width state
fits_found width state row entries words found = which (cases_lt state (2 ^ (64 * width)))
  where
    which : (state < 2 ^ (64 * width)) ⊎ (2 ^ (64 * width) ≤ state) → FitsWords width state
    which (inl l) = l
    which (inr g) = let none : None ≡ Some row = sym (words state g) ∙ found in cc

-- ---- wider tables

pub words_grow : (width wider number : ℕ) → width ≤ wider → FitsWords width number → FitsWords wider number
words_grow width wider number le fits =
    let grown : 2 ^ (64 * width) ≤ 2 ^ (64 * wider) = pow-le-pow_right {n = 2} (lit< tt) {i = 64 * width} {j = 64 * wider} (omega arith) in
    omega (arith, grown, fits)

parent_grows : (width wider : ℕ) (parent : Option ℕ) → width ≤ wider → FitsParent width parent → FitsParent wider parent
parent_grows width wider None le fits = tt
parent_grows width wider (Some state) le fits = words_grow width wider state le fits

-- what has a place at so many words has one in a table that is as wide
pub place_grows : (width : Option ℕ) (words state : ℕ) (row : Row) → IsAtLeast width words → FitsWords words state → IsNarrow words row → HasPlaceAt width state row
place_grows None words state row le fits narrow = tt
place_grows (Some width) words state row le fits narrow = (
  words_grow words width state le fits,
  record { g = narrow.g; estimate = narrow.estimate; parent = parent_grows words width row.parent le narrow.parent },
)

-- ---- the last of the keys so far

is_apart : (key : ℕ) (entries rest : List (ℕ × Row)) (state : ℕ) (row : Row) → AllByRecursion (λ other. nat_eq key other ≡ false) (keys_of (entries ++ (state, row) ∷ rest)) → nat_eq key state ≡ false
is_apart key [] rest state row apart = apart.0
is_apart key (entry ∷ entries) rest state row apart = is_apart key entries rest state row apart.1

pub put_last : (entries rest : List (ℕ × Row)) (state : ℕ) (row : Row) → IsDistinct nat_eq (keys_of (entries ++ (state, row) ∷ rest)) → insert_entry nat_eq entries state row ≡ entries ++ (state, row) ∷ []
unfolding IsDistinct
put_last [] rest state row distinct = refl
put_last (entry ∷ entries) rest state row distinct =
    let apart : nat_eq state entry.0 ≡ false = equal_swap state entry.0 ∙ is_apart entry.0 entries rest state row distinct.0 in
    ap (λ b. cond b ((entry.0, row) ∷ entries) (entry ∷ insert_entry nat_eq entries state row)) apart ∙ ap (λ others. entry ∷ others) (put_last entries rest state row distinct.1)

-- ---- the entries that are written so far

drop_next : (entries : List (ℕ × Row)) (i state : ℕ) (row : Row) → slice_get entries i ≡ Some (state, row) → drop i entries ≡ (state, row) ∷ drop (suc i) entries
drop_next [] i state row found = cc
drop_next (entry ∷ entries) zero state row found = let same : entry ≡ (state, row) = cc in ap (λ first. first ∷ entries) same
drop_next (entry ∷ entries) (suc i) state row found = drop_next entries i state row found

pub next_written : (entries : List (ℕ × Row)) (i next state : ℕ) (row : Row) (wide after : List (ℕ × Row))
    → next ≡ suc i → slice_get entries i ≡ Some (state, row) → after ≡ insert_entry nat_eq wide state row → IsDistinct nat_eq (keys_of entries)
    → wide ++ drop i entries ≡ entries → after ++ drop next entries ≡ entries
next_written entries i next state row wide after is_next found put distinct so_far =
    ap (λ n. after ++ drop n entries) is_next
    ∙ (ap (λ done. done ++ rest) (put ∙ put_last wide rest state row apart) ∙ (append_assoc wide ((state, row) ∷ []) rest ∙ whole))
  where
    rest : List (ℕ × Row)
    rest = drop (suc i) entries

    whole : wide ++ (state, row) ∷ rest ≡ entries
    whole = ap (λ others. wide ++ others) (sym (drop_next entries i state row found)) ∙ so_far

    apart : IsDistinct nat_eq (keys_of (wide ++ (state, row) ∷ rest))
    apart = subst (λ all. IsDistinct nat_eq (keys_of all)) (sym whole) distinct
