-- What the estimate's loops keep.
use Rattle.std.proofs.Common.{◌≡◌, ℕ, zero, suc, ◌+◌, ◌*◌, ◌^◌, ◌<◌, ◌≤◌, Bool, true, false, List, [], length, All, Option, None, Some, is_none, slice_index, replicate, ap, arith, inl, inr, if◌then◌else◌}
use Rattle.std.proofs.Math.ListN.{get_or-eq_default}
use Rattle.std.proofs.lemmas.Bool.{cases_lt}
use Rattle.std.proofs.lemmas.List.{get_or-replicate}
use Rattle.std.proofs.lemmas.List.Elements.{All-get_or}
use Rattle.pb_tables.specs.Tables.{TableValue, IsTable, table_at, value_at, value_in}
use Rattle.pb_tables.specs.Estimate.{place_of, sum_of}
use Rattle.pb_model.specs.declared.row.Estimate.{Estimate}
use Rattle.pb_model.specs.declared.row.Estimate.TheVariants.{Cost, Dead}
use Rattle.pb_tables.specs.Below.{greatest_below}
use Rattle.pb_tables.specs.Estimate.{is_trapped, is_unlisted, tables_estimate}
use Rattle.pb_tables.specs.Laws.{EstimatesAreSmall}
use Rattle.pb_tables.proofs.Searches.{greatest_bound, sum_bound}

abbrev pub empty : TableValue
empty = record { tracked = 0; listed = []; values = [] }

pub table_is : (sums : ℕ) (tables : List TableValue) → All (IsTable sums) tables → (number : ℕ) → number < length tables → IsTable sums (table_at tables number)
table_is sums tables are number less = All-get_or (IsTable sums) tables number empty less are

-- the values of a listed image are among the table's
pub values_inside : (sums : ℕ) (table : TableValue) → IsTable sums table → (place : ℕ) → place < length table.listed → place * sums + sums ≤ length table.values
values_inside sums table is place inside =
    let more : suc place * sums ≤ length table.listed * sums = grown (suc place) (length table.listed) sums (omega (arith, inside)) in
    let split : suc place * sums ≡ place * sums + sums = omega arith in
    omega (arith, more, split, is.long) where
      grown : (low high by : ℕ) → low ≤ high → low * by ≤ high * by
      grown low high zero order = omega arith
      grown low high (suc by) order =
          let before : low * by ≤ high * by = grown low high by order in
          let one : low * suc by ≡ low * by + low = omega arith in
          let other : high * suc by ≡ high * by + high = omega arith in
          omega (arith, before, one, other, order)

pub value_small : (sums : ℕ) (table : TableValue) → IsTable sums table → (sum place : ℕ) → value_at sums table.values sum place ≤ 2 ^ 40
value_small sums table is sum place = elim (cases_lt (place * sums + sum) (length table.values)) [
  | inl inside ↦ All-get_or (λ value. value ≤ 2 ^ 40) table.values (place * sums + sum) 0 inside is.small
  | inr past ↦
      let none : value_at sums table.values sum place ≡ 0 = get_or-eq_default table.values 0 {n = place * sums + sum} past in
      omega (arith, none)
]

pub value_in_small : (sums : ℕ) (table : TableValue) → IsTable sums table → (sum : ℕ) (place : Option ℕ) → value_in sums table.values sum place ≤ 2 ^ 40
value_in_small sums table is sum None = omega arith
value_in_small sums table is sum (Some place) = value_small sums table is sum place

pub sum_small : (count sums : ℕ) (tables : List TableValue) → All (IsTable sums) tables → (first state sum : ℕ) → first ≤ length tables → length tables ≤ 4096
    → sum_of count sums tables first state sum ≤ 2 ^ 52
sum_small count sums tables are first state sum within few =
    let bound : sum_of count sums tables first state sum ≤ first * 2 ^ 40 =
    sum_bound first (λ number. value_in sums (table_at tables number).values sum (place_of count state (table_at tables number))) (2 ^ 40)
    (λ number less. value_in_small sums (table_at tables number) (table_is sums tables are number (omega (arith, less, within))) sum (place_of count state (table_at tables number))) in
    omega (arith, bound, within, few)

pub nothing_yet : (sum sums : ℕ) → sum < sums → sums ≤ 64 → slice_index (replicate 64 0) sum ≡ 0
nothing_yet sum sums less few = get_or-replicate 64 sum 0 0 (omega (arith, less, few))

pub some_listed : (place : Option ℕ) (number : ℕ) → place ≡ Some number → is_none place ≡ false
some_listed place number e = ap (λ (o : Option ℕ). is_none o) e

pub none_listed : (place : Option ℕ) → place ≡ None → is_none place ≡ true
none_listed place e = ap (λ (o : Option ℕ). is_none o) e

-- ---- no estimate is large

small_by : (value cost : ℕ) (trapped unlisted : Bool) → value ≤ 2 ^ 52 → ◌≡◌ {A = Estimate} (if trapped then Dead else (if unlisted then Cost 0 else Cost value)) (Cost cost) → cost ≤ 2 ^ 52
small_by value cost true unlisted small e = absurd (let f : ◌≡◌ {A = Estimate} Dead (Cost cost) = e in cc)
small_by value cost false true small e = let same : 0 ≡ cost = let f : ◌≡◌ {A = Estimate} (Cost 0) (Cost cost) = e in cc in omega (arith, same)
small_by value cost false false small e = let same : value ≡ cost = let f : ◌≡◌ {A = Estimate} (Cost value) (Cost cost) = e in cc in omega (arith, same, small)

pub estimates_are_small : EstimatesAreSmall
unfolding tables_estimate
estimates_are_small strips tables are state cost e =
    let sum = sum_of strips.atoms tables.sums tables.tables (length tables.tables) state in
    small_by (greatest_below tables.sums sum) cost (is_trapped strips.atoms tables.traps state) (is_unlisted strips.atoms tables.tables (length tables.tables) state)
    (greatest_bound tables.sums sum (2 ^ 52) (λ s less. sum_small strips.atoms tables.sums tables.tables are.each (length tables.tables) state s (omega arith) are.tables_few)) e
