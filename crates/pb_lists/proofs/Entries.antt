-- A row that is put into a list of entries.
use Rattle.std.proofs.Common.{◌≡◌, ◌≤◌, ◌<◌, ℕ, zero, suc, length, Bool, true, false, cond, Option, Some, List, [], ◌∷◌, refl, sym, ap, ◌∙◌, arith, nat_eq, nat_lt, if◌then◌else◌, is_some, true≢false}
use Rattle.std.proofs.lemmas.Bool.{ne_eqb}
use Rattle.std.proofs.lemmas.Bool.Decides.{nat_tests}
use Rattle.std.proofs.lemmas.Cmp.{nat_eq_equiv}
use Rattle.std.proofs.lemmas.Map.Entries.{place_from_lookup, lookup_from_place}
use Rattle.std.specs.List.{slice_get}
use Rattle.std.specs.Map.{lookup, lookup_key, set_value}
use Rattle.indexmap.specs.IndexMap.{insert_entry}
use Rattle.pb_model.specs.declared.row.Estimate.{Estimate}
use Rattle.pb_model.specs.declared.row.Row.{Row}
use Rattle.pb_model.specs.declared.row.Status.{Status}
use Rattle.pb_model.specs.declared.row.Status.TheVariants.{Opened}
use Rattle.pb_model.specs.Work.{offered_row, with_status}
use Rattle.pb_model.proofs.Callers.{equal, equal_self}
use Rattle.pb_lists.specs.Bundle.{Content, row_in, row_of, put, SetsRow, SetsStatus}
use Rattle.pb_lists.specs.Laws.{EntriesAreRows}

pub entries_are_rows : EntriesAreRows
entries_are_rows content distinct state row = (at_place, found)
  where
    at_place : row_of content state ≡ Some row → (i : ℕ) × (slice_get content.entries i ≡ Some (state, row))
    at_place is =
        let place = place_from_lookup (nat_eq state) content.entries row is in
        let same : place.1 ≡ state = grind (arith, nat_tests, place.3) in
        (place.0, place.2 ∙ ap (λ key. Some (key, row)) same)

    found : ((i : ℕ) × (slice_get content.entries i ≡ Some (state, row))) → row_of content state ≡ Some row
    found (i, is) = lookup_from_place nat_eq_equiv content.entries i state row distinct is

-- to put the row that is there changes nothing
pub put_same : (state : ℕ) (row : Row) (entries : List (ℕ × Row)) → row_in entries state ≡ Some row → insert_entry nat_eq entries state row ≡ entries
put_same state row [] found = cc
put_same state row (entry ∷ entries) found = at (nat_eq state entry.0) found (λ f. put_same state row entries f)
  where
    at : (here : Bool) → cond here (Some entry.1) (row_in entries state) ≡ Some row → (row_in entries state ≡ Some row → insert_entry nat_eq entries state row ≡ entries)
        → cond here ((entry.0, row) ∷ entries) (entry ∷ insert_entry nat_eq entries state row) ≡ entry ∷ entries
    at true f next = let same : entry.1 ≡ row = cc in ap (λ r. (entry.0, r) ∷ entries) (sym same)
    at false f next = ap (λ rest. entry ∷ rest) (next f)

-- a value that is there is put by writing it where it stands
pub put_there : {V : Type 0} → (state : ℕ) (value : V) (entries : List (ℕ × V)) → is_some (lookup (nat_eq state) entries) ≡ true → insert_entry nat_eq entries state value ≡ set_value (nat_eq state) entries value
put_there state value [] there = absurd (true≢false (sym there))
put_there state value (entry ∷ entries) there = at (nat_eq state entry.0) there (λ t. put_there state value entries t)
  where
    at : (here : Bool) → is_some (cond here (Some entry.1) (lookup (nat_eq state) entries)) ≡ true → (is_some (lookup (nat_eq state) entries) ≡ true → insert_entry nat_eq entries state value ≡ set_value (nat_eq state) entries value)
        → cond here ((entry.0, value) ∷ entries) (entry ∷ insert_entry nat_eq entries state value) ≡ cond here ((entry.0, value) ∷ entries) (entry ∷ set_value (nat_eq state) entries value)
    at true t next = refl
    at false t next = ap (λ rest. entry ∷ rest) (next t)

-- an offer that is no cheaper leaves the row
pub worse_row : (g : ℕ) (estimate : Estimate) (parent : Option ℕ) (action : ℕ) (was : Row) → was.g ≤ g → offered_row g estimate parent action (Some was) ≡ was
worse_row g estimate parent action was le = kept (nat_lt g was.g) (record { g = g; estimate = was.estimate; parent = parent; action = action; status = Opened }) (grind (arith, nat_tests))
  where
    kept : (lower : Bool) (row : Row) → lower ≡ false → (if lower then row else was) ≡ was
    kept true row e = cc
    kept false row e = refl

-- and changes nothing
pub put_worse : (content : Content) (state g : ℕ) (estimate : Estimate) (parent : Option ℕ) (action : ℕ) (was : Row) → row_of content state ≡ Some was → was.g ≤ g
    → content ≡ put content state (offered_row g estimate parent action (Some was))
put_worse content state g estimate parent action was found le =
    ap (λ entries. record content { entries = entries })
    (sym (ap (λ row. insert_entry nat_eq content.entries state row) (worse_row g estimate parent action was le) ∙ put_same state was content.entries found))

-- and sets the row that is there
pub sets_worse : (content : Content) (state g : ℕ) (estimate : Estimate) (parent : Option ℕ) (action : ℕ) (was : Row) → row_of content state ≡ Some was → was.g ≤ g
    → SetsRow (row_of content) (row_of content) state (offered_row g estimate parent action (Some was))
sets_worse content state g estimate parent action was found le = record {
  here = found ∙ ap (λ row. Some row) (sym (worse_row g estimate parent action was le));
  others = λ other apart. refl;
}

-- an offer that is cheaper makes this row
pub better_row : (g : ℕ) (parent : Option ℕ) (action : ℕ) (was : Row) (costs : ℕ × Estimate × Status) (made : Row) → costs ≡ (was.g, was.estimate, was.status) → g < was.g
    → made ≡ record { g = g; estimate = costs.1; parent = parent; action = action; status = Opened } → made ≡ offered_row g was.estimate parent action (Some was)
better_row g parent action was costs made same less is =
    is ∙ (ap (λ (c : ℕ × Estimate × Status). record { g = g; estimate = c.1; parent = parent; action = action; status = Opened }) same
    ∙ lower (nat_lt g was.g) (record { g = g; estimate = was.estimate; parent = parent; action = action; status = Opened }) (grind (arith, nat_tests)))
  where
    lower : (less : Bool) (row : Row) → less ≡ true → row ≡ (if less then row else was)
    lower true row e = refl
    lower false row e = cc

-- a row that is written is set
pub row_sets : (entries after : List (ℕ × Row)) (state : ℕ) (row : Row) → ((other : ℕ) → row_in after other ≡ cond (nat_eq state other) (Some row) (row_in entries other))
    → SetsRow (row_in entries) (row_in after) state row
row_sets entries after state row updates = record {
  here = updates state ∙ ap (λ b. cond b (Some row) (row_in entries state)) (equal_self state);
  others = λ other apart. updates other ∙ ap (λ b. cond b (Some row) (row_in entries other)) (ne_eqb state other (λ is. apart (sym is)));
}

-- a status that is written is set, and all else stays
pub status_sets : (entries after : List (ℕ × Row)) (state : ℕ) (row : Row) (status : Status) → row_in entries state ≡ Some row
    → ((other : ℕ) → row_in after other ≡ cond (nat_eq state other) (Some (record row { status = status })) (row_in entries other)) → SetsStatus (row_in entries) (row_in after) state status
status_sets entries after state row status found updates = record {
  here = updates state
      ∙ (ap (λ b. cond b (Some (record row { status = status })) (row_in entries state)) (equal_self state) ∙ sym (ap (with_status status) found));
  others = λ other apart. updates other ∙ ap (λ b. cond b (Some (record row { status = status })) (row_in entries other)) (ne_eqb state other (λ is. apart (sym is)));
}

-- the key that is found by a state is the state
pub key_by_state : {V : Type 0} → (state : ℕ) (entries : List (ℕ × V)) (key : ℕ) → lookup_key (nat_eq state) entries ≡ Some key → state ≡ key
key_by_state state [] key found = cc
key_by_state state (entry ∷ entries) key found = at (nat_eq state entry.0) refl found (λ f. key_by_state state entries key f)
  where
    at : (here : Bool) → nat_eq state entry.0 ≡ here → cond here (Some entry.0) (lookup_key (nat_eq state) entries) ≡ Some key
        → (lookup_key (nat_eq state) entries ≡ Some key → state ≡ key) → state ≡ key
    at true e f next = let same : entry.0 ≡ key = cc in equal state entry.0 e ∙ same
    at false e f next = next f

-- what stands at a place
pub there_is : (entries : List (ℕ × Row)) (place : ℕ) → place < length entries → (state : ℕ) × (row : Row) × (slice_get entries place ≡ Some (state, row))
there_is [] place less = absurd (omega (arith, less))
there_is (entry ∷ entries) zero less = (entry.0, entry.1, refl)
there_is (entry ∷ entries) (suc place) less = there_is entries place (omega (arith, less))
