-- A store with the rows of the start and of one of its successors, both Opened, is sound.
use Rattle.std.proofs.Common.{◌≡◌, ◌≢◌, ◌⊎◌, inl, inr, ℕ, ◌+◌, ◌≤◌, ◌==◌, Bool, true, false, Option, None, Some, IsTrue, if◌then◌else◌, refl, sym, subst, ap, arith, ◌∙◌}
use Rattle.std.proofs.lemmas.Bool.{eqb-false}
use Rattle.pb_model.specs.declared.row.Row.{Row}
use Rattle.pb_model.specs.declared.row.Estimate.TheVariants.{Cost}
use Rattle.pb_model.specs.declared.row.Status.{Status}
use Rattle.pb_model.specs.declared.row.Status.TheVariants.{Opened, Closed, Cut}
use Rattle.pb_model.specs.Space.{Space, Steps, IsProper}
use Rattle.pb_model.specs.Weight.{Weight, IsWeight}
use Rattle.pb_model.specs.Work.{offered_row}
use Rattle.pb_model.specs.Store.{Part, Rows}
use Rattle.pb_model.specs.Sound.{HasParent}
use Rattle.pb_model.proofs.Callers.{by_cases, equal, equal_self}
use Rattle.pb_lists.specs.Bundle.{Content, row_of, SetsRow}
use Rattle.pb_lists.specs.Store.{IsSoundAt, guide_with, store_with, rows_at_home, one_part_rows}

same_row : (found : Option Row) (one two : Row) → found ≡ Some one → found ≡ Some two → one ≡ two
same_row found one two x y = cc

none_found : (found : Option Row) (row : Row) → found ≡ None → found ≡ Some row → ⊥
none_found found row x y = cc

not_closed : (status : Status) → status ≡ Opened → status ≡ Closed → ⊥
not_closed status x y = cc

not_cut : (status : Status) → status ≡ Opened → status ≡ Cut → ⊥
not_cut status x y = cc

if_true : (b : Bool) (x y : Option Row) (row : Row) → b ≡ true → (if b then x else y) ≡ Some row → x ≡ Some row
if_true b x y row t is = subst (λ c. (if c then x else y) ≡ Some row) t is

if_false : (b : Bool) (x y : Option Row) (row : Row) → b ≡ false → (if b then x else y) ≡ Some row → y ≡ Some row
if_false b x y row f is = subst (λ c. (if c then x else y) ≡ Some row) f is

-- ---- the rows

abbrev pub start_row : Row
start_row = offered_row 0 (Cost 0) None 0 None

abbrev pub next_row : (start cost action : ℕ) → Row
next_row start cost action = offered_row cost (Cost 0) (Some start) action None

-- these are the start's row and its successor's, each in the part that is its state's home, and there is no other
pub record AreTwo (start next cost action : ℕ) (homes : ℕ → ℕ) (rows : Rows) : Type 0 where
  pub has_start : rows_at_home homes rows start ≡ Some start_row
  pub has_next : rows_at_home homes rows next ≡ Some (next_row start cost action)
  pub placed : (home state : ℕ) (row : Row) → rows home state ≡ Some row → home ≡ homes state
  pub which : (home state : ℕ) (row : Row) → rows home state ≡ Some row → ((state ≡ start) × (row ≡ start_row)) ⊎ ((state ≡ next) × (row ≡ next_row start cost action))

module _ (space : Space) (greatest_cost : ℕ) (proper : IsProper space greatest_cost) (action next cost : ℕ) (step : Steps space space.start action next cost) (homes : ℕ → ℕ) (rows : Rows)
    (are : AreTwo space.start next cost action homes rows) (weight : Weight) (unweighted : weight ≡ record { num = 1; den = 1 }) where
  opened : (home state : ℕ) (row : Row) → rows home state ≡ Some row → row.status ≡ Opened
  opened home state row found = elim (are.which home state row found) [ inl h ↦ ap (λ (r : Row). r.status) h.1 | inr h ↦ ap (λ (r : Row). r.status) h.1 ]

  known : (home state : ℕ) (row : Row) → rows home state ≡ Some row → IsTrue (space.is_state state) × (row.estimate ≡ Cost 0)
  known home state row found = elim (are.which home state row found) [
    | inl h ↦ (subst (λ s. IsTrue (space.is_state s)) (sym h.0) proper.start, ap (λ (r : Row). r.estimate) h.1)
    | inr h ↦ (subst (λ s. IsTrue (space.is_state s)) (sym h.0) (proper.to_state space.start action next cost step), ap (λ (r : Row). r.estimate) h.1)
  ]

  come : (state : ℕ) (row : Row) → rows_at_home homes rows state ≡ Some row → (state ≡ space.start) ⊎ HasParent space (guide_with (λ state. Cost 0) homes) (store_with rows weight None) state row
  come state row found = elim (are.which (homes state) state row found) [
    | inl h ↦ inl h.0
    | inr h ↦ inr (record {
      parent = space.start;
      parent_row = start_row;
      cost = cost;
      named = ap (λ (r : Row). r.parent) h.1;
      found = are.has_start;
      step = subst (λ a. Steps space space.start a state cost) (sym (ap (λ (r : Row). r.action) h.1)) (subst (λ s. Steps space space.start action s cost) (sym h.0) step);
      cheaper = subst (λ g. 0 + cost ≤ g) (sym (ap (λ (r : Row). r.g) h.1)) (omega arith);
    })
  ]

  pub two_rows_are_sound : IsSoundAt space homes rows weight
  two_rows_are_sound = (
    λ state. Cost 0,
    None,
    record {
      place = λ home state row found. (are.placed home state row found, (known home state row found).0, (known home state row found).1);
      start = (start_row, are.has_start, omega arith);
      parent = come;
      closed = λ state row found closed. absurd (not_closed row.status (opened (homes state) state row found) closed);
      no_goal = λ state row found closed. absurd (not_closed row.status (opened (homes state) state row found) closed);
      cut = λ state row found cut. absurd (not_cut row.status (opened (homes state) state row found) cut);
      weight = subst IsWeight (sym unweighted) (record { positive = omega arith; at_least_one = omega arith; small = omega arith });
    },
  )

-- ---- in one bundle

module _ (start next cost action : ℕ) (other : next ≢ start) (empty one two : Content) (none : (state : ℕ) → row_of empty state ≡ None)
    (first : SetsRow (row_of empty) (row_of one) start (offered_row 0 (Cost 0) None 0 (row_of empty start)))
    (second : SetsRow (row_of one) (row_of two) next (offered_row cost (Cost 0) (Some start) action (row_of one next))) where
  has_start : row_of two start ≡ Some start_row
  has_start = second.others start (λ e. other (sym e)) ∙ first.here ∙ ap (λ row. Some (offered_row 0 (Cost 0) None 0 row)) (none start)

  pub has_next : row_of two next ≡ Some (next_row start cost action)
  has_next = second.here ∙ ap (λ row. Some (offered_row cost (Cost 0) (Some start) action row)) (first.others next other ∙ none next)

  which : (state : ℕ) (row : Row) → row_of two state ≡ Some row → ((state ≡ start) × (row ≡ start_row)) ⊎ ((state ≡ next) × (row ≡ next_row start cost action))
  which state row found =
      by_cases (state == start)
      (λ t. let e : state ≡ start = equal state start t in inl (e, same_row (row_of two start) row start_row (subst (λ s. row_of two s ≡ Some row) e found) has_start))
      (λ f. by_cases (state == next)
      (λ t. let e : state ≡ next = equal state next t in inr (e, same_row (row_of two next) row (next_row start cost action) (subst (λ s. row_of two s ≡ Some row) e found) has_next))
      (λ g. absurd (none_found (row_of two state) row (second.others state (eqb-false state next g) ∙ first.others state (eqb-false state start f) ∙ none state) found)))

  at_zero : (home state : ℕ) (row : Row) → one_part_rows two home state ≡ Some row → (home ≡ 0) × (row_of two state ≡ Some row)
  at_zero home state row found =
      by_cases (home == 0)
      (λ t. (equal home 0 t, if_true (home == 0) (row_of two state) None row t found))
      (λ f. absurd (none_found None row refl (if_false (home == 0) (row_of two state) None row f found)))

  pub two_in_one : AreTwo start next cost action (λ state. 0) (one_part_rows two)
  two_in_one =
      record {
        has_start = has_start;
        has_next = has_next;
        placed = λ home state row found. (at_zero home state row found).0;
        which = λ home state row found. which state row (at_zero home state row found).1;
      }

-- ---- the same, where the start is known by another name

pub one_part_is_sound : (space : Space) (greatest_cost : ℕ) → IsProper space greatest_cost → (start action next cost : ℕ) (empty one two : Content) → start ≡ space.start → ((state : ℕ) → row_of empty state ≡ None)
    → two.weight ≡ record { num = 1; den = 1 } → Steps space start action next cost → false ≡ (next == start)
    → SetsRow (row_of empty) (row_of one) start (offered_row 0 (Cost 0) None 0 (row_of empty start))
    → SetsRow (row_of one) (row_of two) next (offered_row cost (Cost 0) (Some start) action (row_of one next)) → IsSoundAt space (λ state. 0) (one_part_rows two) two.weight
one_part_is_sound space greatest_cost proper start action next cost empty one two same none weight step other first second =
    two_rows_are_sound space greatest_cost proper action next cost (subst (λ s. Steps space s action next cost) same step) (λ state. 0) (one_part_rows two)
    (subst (λ s. AreTwo s next cost action (λ state. 0) (one_part_rows two)) same (two_in_one start next cost action (eqb-false next start (sym other)) empty one two none first second)) two.weight weight
