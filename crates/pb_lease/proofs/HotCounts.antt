-- The numbers of hot blocks while blocks become hot and cold one by one.
use Rattle.std.proofs.Common.{◌≡◌, ℕ, ◌+◌, ◌<◌, ◌≤◌, ◌^◌, Bool, true, false, nat_lt, List, None, length, get_or, slice_set, ap, ◌∙◌, arith, length-set}
use Rattle.std.proofs.lemmas.List.{get_or_past}
use Rattle.pb_model.proofs.Callers.{by_cases, below, not_below}
use Rattle.pb_machine.specs.Tables.{with_entry, one_if}
use Rattle.pb_machine.proofs.Callers.{table_at, marks_change_hot, interference_is_mutual, counters_fit}
use Rattle.pb_machine.specs.Blocks.{Blocks, interferes}
use Rattle.pb_machine.specs.Counters.{hot_count}
use Rattle.pb_lease.specs.Kept.{AreMarks}

-- a list after a write, as a table
pub table_is : {A : Type 0} (xs : List A) (i : ℕ) (v d : A) → i < length xs → ◌≡◌ {A = ℕ → A} (λ k. get_or (slice_set xs i v) k d) (with_entry (λ n. get_or xs n d) i v)
table_is xs i v d lt = λ j k. table_at xs i v d lt k j

module _ (of : Blocks) (hot : List Bool) (near : List ℕ) (m : AreMarks of hot near) where
  abbrev Hot : ℕ → Bool
  Hot c = get_or hot c false

  -- the numbers have room for one more
  pub fits : (c : ℕ) → get_or near c 0 + 1 < 2 ^ 32
  fits c = by_cases (nat_lt c of.count)
      (λ e. let lt = below c of.count e in omega (arith, m.counted c lt, (counters_fit of 0 (λ w. None) Hot c).1, m.few))
      (λ e. let le = not_below c of.count e in omega (arith, get_or_past near c 0 (omega (arith, le, m.near_places))))

  -- a hot block counts for each that interferes with it
  pub counted_hot : (block c : ℕ) → block < of.count → Hot block ≡ true → c < of.count → interferes of block c ≡ true → 1 ≤ get_or near c 0
  counted_hot block c there is inside near_it =
      let change = (marks_change_hot of Hot block c there).1 is in
      let one : one_if (interferes of c block) ≡ 1 = ap one_if (interference_is_mutual of c block ∙ near_it) in
      omega (arith, m.counted c inside, change, one)

  pub marked_kept : (block : ℕ) (after : List ℕ) → block < of.count → Hot block ≡ false → length after ≡ length near
      → ((c : ℕ) → get_or after c 0 ≡ get_or near c 0 + one_if (interferes of block c)) → AreMarks of (slice_set hot block true) after
  marked_kept block after there is same each = record {
    few = m.few;
    hot_places = length-set hot block true ∙ m.hot_places;
    near_places = same ∙ m.near_places;
    counted = λ c lt.
        let change = (marks_change_hot of Hot block c there).0 is in
        let swap = ap one_if (interference_is_mutual of block c) in
        let table = ap (λ (t : ℕ → Bool). hot_count of t c) (table_is hot block true false (omega (arith, there, m.hot_places))) in
        omega (arith, each c, m.counted c lt, change, swap, table);
  }

  pub cooled_kept : (block : ℕ) (after : List ℕ) → block < of.count → Hot block ≡ true → length after ≡ length near
      → ((c : ℕ) → get_or after c 0 + one_if (interferes of block c) ≡ get_or near c 0) → AreMarks of (slice_set hot block false) after
  cooled_kept block after there is same each = record {
    few = m.few;
    hot_places = length-set hot block false ∙ m.hot_places;
    near_places = same ∙ m.near_places;
    counted = λ c lt.
        let change = (marks_change_hot of Hot block c there).1 is in
        let swap = ap one_if (interference_is_mutual of block c) in
        let table = ap (λ (t : ℕ → Bool). hot_count of t c) (table_is hot block false false (omega (arith, there, m.hot_places))) in
        omega (arith, each c, m.counted c lt, change, swap, table);
  }
