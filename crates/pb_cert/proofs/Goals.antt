-- The first goal among the first entries of a part, and among the rows of the first parts.
use Rattle.std.proofs.Common.{◌≡◌, ◌⊎◌, inl, inr, ℕ, ◌+◌, ◌<◌, ◌≤◌, ◌^◌, Option, None, Some, IfSome, IfNone, IsTrue, false, nat_eq, List, length, slice_get, refl, sym, subst, ◌∙◌, arith}
use Rattle.std.specs.Map.{keys_of}
use Rattle.std.specs.List.{IsDistinct}
use Rattle.std.proofs.lemmas.Bool.{cases_lt}
use Rattle.std.proofs.lemmas.Cmp.{nat_eq_equiv}
use Rattle.std.proofs.lemmas.Option.{slice_get_within}
use Rattle.std.proofs.lemmas.Map.Entries.{lookup_from_place, place_from_lookup}
use Rattle.pb_model.specs.declared.row.Row.{Row}
use Rattle.pb_model.specs.Space.{Space}
use Rattle.pb_model.specs.Store.{Part, Rows}
use Rattle.pb_model.proofs.Callers.{equal, not_both}
use Rattle.pb_lists.specs.Bundle.{row_in}
use Rattle.pb_cert.specs.declared.goal.Goal.{Goal}
use Rattle.pb_lists.specs.Store.{HasNoneFrom}
use Rattle.pb_cert.proofs.Parts.{found_below}
use Rattle.pb_cert.specs.Traced.{HasGoal, IsFirstGoal, IsFirstIn, HasRowIn, HasNoLater}

-- ---- entry after entry

-- there is a goal, and it stands among the entries with its row
abbrev pub HasEntry : Space → List (ℕ × Row) → Option Goal → Type 0
HasEntry space entries None = ⊥
HasEntry space entries (Some goal) = (k : ℕ) × (row : Row) × (slice_get entries k ≡ Some (goal.state, row)) × (row.g ≡ goal.g) × IsTrue (space.is_goal goal.state)

pub record IsFirstSoFar (space : Space) (entries : List (ℕ × Row)) (so_far : Option Goal) (i : ℕ) (first : Option Goal) : Type 0 where
  pub kept : (g other : ℕ) → HasNoLater so_far g other → HasNoLater first g other
  pub small : IfSome so_far (λ goal. goal.g < 2 ^ 64) → IfSome first (λ goal. goal.g < 2 ^ 64)
  pub from : (first ≡ so_far) ⊎ HasEntry space entries first
  pub least : (k : ℕ) (entry : ℕ × Row) → k < i → slice_get entries k ≡ Some entry → IsTrue (space.is_goal entry.0) → HasNoLater first entry.1.g entry.0

pub none_so_far : (space : Space) (entries : List (ℕ × Row)) (so_far : Option Goal) → IsFirstSoFar space entries so_far 0 so_far
none_so_far space entries so_far =
    record { kept = λ g other later. later; small = λ small. small; from = inl refl; least = λ k entry below. absurd (omega (arith, below)) }

pub one_more : (space : Space) (entries : List (ℕ × Row)) (so_far : Option Goal) (i : ℕ) (first next : Option Goal) (state : ℕ) (row : Row) → slice_get entries i ≡ Some (state, row)
    → IsFirstSoFar space entries so_far i first → ((g other : ℕ) → HasNoLater first g other → HasNoLater next g other)
    → (IfSome first (λ goal. goal.g < 2 ^ 64) → IfSome next (λ goal. goal.g < 2 ^ 64)) → (IsTrue (space.is_goal state) → HasNoLater next row.g state)
    → (next ≡ first) ⊎ ((next ≡ Some (record { state = state; g = row.g })) × IsTrue (space.is_goal state)) → IsFirstSoFar space entries so_far (i + 1) next
one_more space entries so_far i first next state row at before kept small here from =
    record {
      kept = λ g other later. kept g other (before.kept g other later);
      small = λ s. small (before.small s);
      from = elim from [
        | inl same ↦ elim before.from [ inl old ↦ inl (same ∙ old) | inr entry ↦ inr (subst (HasEntry space entries) (sym same) entry) ]
        | inr new ↦ inr (subst (HasEntry space entries) (sym new.0) (i, row, at, refl, new.1))
      ];
      least = λ k entry below found is_goal. elim (cases_lt k i) [
        | inl less ↦ kept entry.1.g entry.0 (before.least k entry less found is_goal)
        | inr past ↦
            let same : k ≡ i = omega (arith, past, below) in
            let there : ◌≡◌ {A = ℕ × Row} (state, row) entry = same_entry entries i k (state, row) entry (sym same) at found in
            subst (λ (x : ℕ × Row). HasNoLater next x.1.g x.0) there (here (subst (λ (x : ℕ × Row). IsTrue (space.is_goal x.0)) (sym there) is_goal))
      ];
    }
  where
    same_entry : (entries : List (ℕ × Row)) (i k : ℕ) (one two : ℕ × Row) → i ≡ k → slice_get entries i ≡ Some one → slice_get entries k ≡ Some two → one ≡ two
    same_entry entries i k one two same at found = let there : slice_get entries k ≡ Some one = subst (λ n. slice_get entries n ≡ Some one) same at in cc

-- the state of this place is no goal
pub one_past : (space : Space) (entries : List (ℕ × Row)) (so_far : Option Goal) (i : ℕ) (first : Option Goal) (state : ℕ)
    → ((other : ℕ) (row : Row) → slice_get entries i ≡ Some (other, row) → state ≡ other) → space.is_goal state ≡ false
    → IsFirstSoFar space entries so_far i first → IsFirstSoFar space entries so_far (i + 1) first
one_past space entries so_far i first state reads no_goal before =
    record {
      kept = before.kept;
      small = before.small;
      from = before.from;
      least = λ k entry below found is_goal. elim (cases_lt k i) [
        | inl less ↦ before.least k entry less found is_goal
        | inr past ↦
            let same : k ≡ i = omega (arith, past, below) in
            let there : slice_get entries i ≡ Some (entry.0, entry.1) = subst (λ n. slice_get entries n ≡ Some entry) same found in
            absurd (not_both (space.is_goal state) (subst (λ s. IsTrue (space.is_goal s)) (sym (reads entry.0 entry.1 there)) is_goal) no_goal)
      ];
    }

-- after all entries
module _ (space : Space) (entries : List (ℕ × Row)) (so_far : Option Goal) (i : ℕ) (first : Option Goal) (before : IsFirstSoFar space entries so_far i first) where
  pub first_of_part : length entries ≤ i → IsFirstIn space (row_in entries) first
  first_of_part whole other row found is_goal =
      let place = place_from_lookup (nat_eq other) entries row found in
      let same : other ≡ place.1 = equal other place.1 place.3 in
      let within : place.0 < length entries = slice_get_within entries place.0 (place.1, row) place.2 in
      subst (λ s. HasNoLater first row.g s) (sym same) (before.least place.0 (place.1, row) (omega (arith, within, whole)) place.2 (subst (λ s. IsTrue (space.is_goal s)) same is_goal))

  pub from_part : IsDistinct nat_eq (keys_of entries) → (first ≡ so_far) ⊎ HasRowIn space (row_in entries) first
  from_part distinct = elim before.from [ inl old ↦ inl old | inr entry ↦ inr (its_row first entry) ]
    where
      its_row : (goal : Option Goal) → HasEntry space entries goal → HasRowIn space (row_in entries) goal
      its_row None entry = entry
      its_row (Some goal) entry = (entry.1, lookup_from_place nat_eq_equiv entries entry.0 goal.state entry.1 distinct entry.2, entry.3, entry.4)

-- ---- part after part

-- the goal has its row in some part
abbrev pub HasRowAmong : Space → Rows → Goal → Type 0
HasRowAmong space rows goal = (home : ℕ) × (row : Row) × (rows home goal.state ≡ Some row) × (row.g ≡ goal.g) × IsTrue (space.is_goal goal.state)

pub record IsFirstBelow (space : Space) (rows : Rows) (i : ℕ) (first : Option Goal) : Type 0 where
  pub from : IfSome first (HasRowAmong space rows)
  pub small : IfSome first (λ goal. goal.g < 2 ^ 64)
  pub least : (home other : ℕ) (row : Row) → home < i → rows home other ≡ Some row → IsTrue (space.is_goal other) → HasNoLater first row.g other

pub none_below : (space : Space) (rows : Rows) → IsFirstBelow space rows 0 None
none_below space rows = record { from = tt; small = tt; least = λ home other row below. absurd (omega (arith, below)) }

pub next_part : (space : Space) (rows : Rows) (part : Part) (i : ℕ) (first next : Option Goal) → ((state : ℕ) → part state ≡ rows i state) → IsFirstBelow space rows i first
    → ((g other : ℕ) → HasNoLater first g other → HasNoLater next g other) → (IfSome first (λ goal. goal.g < 2 ^ 64) → IfSome next (λ goal. goal.g < 2 ^ 64))
    → IsFirstIn space part next → (next ≡ first) ⊎ HasRowIn space part next → IsFirstBelow space rows (i + 1) next
next_part space rows part i first next same before kept small here from =
    record {
      small = small before.small;
      from = elim from [ inl old ↦ subst (λ goal. IfSome goal (HasRowAmong space rows)) (sym old) before.from | inr new ↦ among next new ];
      least = λ home other row below found is_goal. elim (cases_lt home i) [
        | inl less ↦ kept row.g other (before.least home other row less found is_goal)
        | inr past ↦ let at : home ≡ i = omega (arith, past, below) in here other row (same other ∙ subst (λ h. rows h other ≡ Some row) at found) is_goal
      ];
    }
  where
    among : (goal : Option Goal) → HasRowIn space part goal → IfSome goal (HasRowAmong space rows)
    among None new = absurd new
    among (Some goal) new = (i, new.0, sym (same goal.state) ∙ new.1, new.2, new.3)

-- after all parts
module _ (space : Space) (rows : Rows) (parts i : ℕ) (beyond : HasNoneFrom rows parts) (whole : parts ≤ i) where
  below : (home other : ℕ) (row : Row) → rows home other ≡ Some row → home < i
  below = found_below rows parts i beyond whole

  pub the_first_if : (first : Option Goal) → IsFirstBelow space rows i first → IfSome first (λ goal. IsFirstGoal space rows goal.state goal.g)
  the_first_if None before = tt
  the_first_if (Some goal) before =
      record {
        home = before.from.0;
        row = before.from.1;
        found = before.from.2;
        costs = before.from.3;
        is_goal = before.from.4;
        first = λ home other row found is_goal. before.least home other row (below home other row found) found is_goal;
      }

  pub no_goal_if : (first : Option Goal) → IsFirstBelow space rows i first → IfNone first (HasGoal space rows → ⊥)
  no_goal_if None before = λ (home, goal, row, found, is_goal). before.least home goal row (below home goal row found) found is_goal
  no_goal_if (Some goal) before = tt
