-- The lines of all rows, part after part, in order of the states, and the certificate that they make.
use Rattle.std.proofs.Common.{◌≡◌, inl, inr, ℕ, ◌+◌, ◌<◌, ◌≤◌, false, Option, Some, nat_eq, All, Contains, List, [], ◌∷◌, ◌++◌, map, length, get_or, refl, sym, subst, ap, arith, ◌∙◌}
use Rattle.std.specs.Map.{keys_of}
use Rattle.std.specs.List.{IsDistinct}
use Rattle.std.specs.List.Sorted.{IsPermutation, IsNonDecreasing, IsNonDecreasingBy}
use Rattle.std.proofs.lemmas.Bool.{cases_lt}
use Rattle.std.proofs.lemmas.Cmp.{nat_eq_equiv}
use Rattle.std.proofs.lemmas.Option.{slice_get-get_or}
use Rattle.std.proofs.lemmas.List.{length-map, get_or-map, map-append}
use Rattle.std.proofs.lemmas.List.Elements.{All-append, All-map, All-weaker, Contains-append_left, Contains-append_right}
use Rattle.std.proofs.lemmas.List.Sorted.{IsPermutation-map, All-permutation, Contains-permutation}
use Rattle.std.proofs.lemmas.Map.Keys.{IsDistinct-IsPermutation, IsStrictlyIncreasing-from_distinct, sorted_from_strictly_increasing}
use Rattle.std.proofs.lemmas.Map.Entries.{lookup_from_place}
use Rattle.std.proofs.lemmas.Map.Views.{Contains-from_lookup}
use Rattle.pb_model.specs.declared.row.Row.{Row}
use Rattle.pb_model.specs.Space.{Space}
use Rattle.pb_model.specs.Weight.{Weight}
use Rattle.pb_model.specs.Plan.{Plan}
use Rattle.pb_model.specs.Guide.{Guide}
use Rattle.pb_model.specs.Store.{Rows, IsQuiet}
use Rattle.pb_model.specs.Sound.{IsSound}
use Rattle.pb_model.specs.Certificate.{Line, Ascends, AreLinesOf, IsPlanIfAny, IsBackedBy, IsValid, line_of}
use Rattle.pb_model.proofs.Callers.{by_cases, equal, equal_swap, quiet_stores_certify}
use Rattle.pb_lists.specs.Bundle.{row_in}
use Rattle.pb_lists.specs.Store.{IsPlaced, HasNoneFrom, store_with}
use Rattle.pb_cert.specs.Listed.{entry_line}
use Rattle.pb_cert.proofs.Distinct.{IsDistinct-append}
use Rattle.pb_cert.proofs.Parts.{found_below}

-- ---- the lines of the first parts

abbrev pub states_of : List Line → List ℕ
states_of lines = map (λ (line : Line). line.state) lines

-- the line is that of a row in this part
abbrev pub IsLineAt : Rows → (home : ℕ) → Line → Type 0
IsLineAt rows home line = (row : Row) × (rows home line.state ≡ Some row) × (line ≡ line_of line.state row)

-- the line is that of a row in one of the first parts
abbrev pub IsLineBelow : Rows → (i : ℕ) → Line → Type 0
IsLineBelow rows i line = (home : ℕ) × (home < i) × IsLineAt rows home line

pub record AreLinesBelow (rows : Rows) (i : ℕ) (lines : List Line) : Type 0 where
  pub sound : All (IsLineBelow rows i) lines
  pub complete : (home state : ℕ) (row : Row) → home < i → rows home state ≡ Some row → Contains lines (line_of state row)
  pub distinct : (homes : ℕ → ℕ) → IsPlaced homes rows → IsDistinct nat_eq (states_of lines)

pub none_below : (rows : Rows) (lines : List Line) → lines ≡ [] → AreLinesBelow rows 0 lines
unfolding IsDistinct
none_below rows lines none =
    subst (AreLinesBelow rows 0) (sym none)
    (record { sound = λ k d below. absurd (omega (arith, below)); complete = λ home state row below. absurd (omega (arith, below)); distinct = λ homes placed. tt })

keys_are : (entries : List (ℕ × Row)) → states_of (map entry_line entries) ≡ keys_of entries
keys_are [] = refl
keys_are (entry ∷ entries) = ap (λ t. entry.0 ∷ t) (keys_are entries)

-- a line of an earlier part has another state
apart : (rows : Rows) (i : ℕ) (homes : ℕ → ℕ) → IsPlaced homes rows → (line other : Line) → IsLineBelow rows i line → IsLineAt rows i other → nat_eq line.state other.state ≡ false
apart rows i homes placed line other one two =
    by_cases (nat_eq line.state other.state)
    (λ t. absurd (not_below one.0 i one.1 (placed one.0 line.state one.2.0 one.2.1 ∙ ap homes (equal line.state other.state t) ∙ sym (placed i other.state two.0 two.1))))
    (λ f. f)
  where
    not_below : (home i : ℕ) → home < i → home ≡ i → ⊥
    not_below home i below same = omega (arith, below, same)

module _ (rows : Rows) (i : ℕ) (lines : List Line) (entries : List (ℕ × Row)) (same : (state : ℕ) → row_in entries state ≡ rows i state) (distinct : IsDistinct nat_eq (keys_of entries))
    (before : AreLinesBelow rows i lines) where
  of_entries : All (IsLineAt rows i) (map entry_line entries)
  of_entries =
      All-map (IsLineAt rows i) entry_line entries
      (λ k d below. (
        (get_or entries k d).1,
        sym (same (get_or entries k d).0) ∙ lookup_from_place nat_eq_equiv entries k (get_or entries k d).0 (get_or entries k d).1 distinct (slice_get-get_or entries k d below),
        refl,
      ))

  has_entry : (state : ℕ) (row : Row) → rows i state ≡ Some row → Contains (map entry_line entries) (line_of state row)
  has_entry state row found =
      let there : Contains entries (state, row) = Contains-from_lookup {eq = nat_eq} equal state row entries (same state ∙ found) in (
        there.0,
        subst (λ n. there.0 < n) (sym (length-map entries entry_line)) there.1,
        get_or-map entry_line entries there.0 (state, row) (line_of state row) there.1 ∙ ap entry_line there.2,
      )

  states_apart : (homes : ℕ → ℕ) → IsPlaced homes rows → IsDistinct nat_eq (states_of (lines ++ map entry_line entries))
  states_apart homes placed =
      subst (IsDistinct nat_eq) (sym (map-append (λ (line : Line). line.state) lines (map entry_line entries)))
      (IsDistinct-append nat_eq (states_of lines) (states_of (map entry_line entries)) (before.distinct homes placed) (subst (IsDistinct nat_eq) (sym (keys_are entries)) distinct)
      (All-map (λ x. All (λ y. nat_eq x y ≡ false) (states_of (map entry_line entries))) (λ (line : Line). line.state) lines
      (All-weaker (IsLineBelow rows i) (λ line. All (λ y. nat_eq line.state y ≡ false) (states_of (map entry_line entries)))
      (λ line one. All-map (λ y. nat_eq line.state y ≡ false) (λ (line : Line). line.state) (map entry_line entries)
      (All-weaker (IsLineAt rows i) (λ other. nat_eq line.state other.state ≡ false) (λ other two. apart rows i homes placed line other one two) (map entry_line entries) of_entries))
      lines before.sound)))

  pub next_part : AreLinesBelow rows (i + 1) (lines ++ map entry_line entries)
  next_part =
      record {
        sound =
            All-append (IsLineBelow rows (i + 1)) lines (map entry_line entries)
            (All-weaker (IsLineBelow rows i) (IsLineBelow rows (i + 1)) (λ line one. (one.0, omega (arith, one.1), one.2)) lines before.sound)
            (All-weaker (IsLineAt rows i) (IsLineBelow rows (i + 1)) (λ line one. (i, omega arith, one)) (map entry_line entries) of_entries);
        complete = λ home state row below found. elim (cases_lt home i) [
          | inl less ↦ Contains-append_left lines (map entry_line entries) (line_of state row) (before.complete home state row less found)
          | inr past ↦
              let at : home ≡ i = omega (arith, past, below) in
              Contains-append_right lines (map entry_line entries) (line_of state row) (has_entry state row (subst (λ h. rows h state ≡ Some row) at found))
        ];
        distinct = states_apart;
      }

-- in another order they are the same lines
pub in_any_order : (rows : Rows) (i : ℕ) (lines others : List Line) → IsPermutation lines others → AreLinesBelow rows i lines → AreLinesBelow rows i others
in_any_order rows i lines others permuted are =
    record {
      sound = All-permutation (IsLineBelow rows i) lines others permuted are.sound;
      complete = λ home state row below found. Contains-permutation lines others (line_of state row) permuted (are.complete home state row below found);
      distinct = λ homes placed. IsDistinct-IsPermutation nat_eq equal_swap (states_of lines) (states_of others) (IsPermutation-map (λ (line : Line). line.state) lines others permuted) (are.distinct homes placed);
    }

-- ---- all lines, sorted

rising : (lines : List Line) → IsNonDecreasingBy (λ (line : Line). line.state) lines → IsNonDecreasing (states_of lines)
rising lines sorted i j d le below =
    let within : j < length lines = subst (λ n. j < n) (length-map lines (λ (line : Line). line.state)) below in
    let none : Line = record { state = 0; g = 0; is_closed = false } in
    rw (get_or-map (λ (line : Line). line.state) lines i none d (omega (arith, le, within)), get_or-map (λ (line : Line). line.state) lines j none d within) (sorted i j none le within)

module _ (rows : Rows) (parts i : ℕ) (beyond : HasNoneFrom rows parts) (whole : parts ≤ i) (all lines : List Line) (are : AreLinesBelow rows i all) (permuted : IsPermutation all lines)
    (sorted : IsNonDecreasingBy (λ (line : Line). line.state) lines) where
  below : (home state : ℕ) (row : Row) → rows home state ≡ Some row → home < i
  below = found_below rows parts i beyond whole

  module _ (guide : Guide) (placed : IsPlaced guide.home rows) where
    ascending : Ascends lines
    ascending =
        let same : IsPermutation (states_of all) (states_of lines) = IsPermutation-map (λ (line : Line). line.state) all lines permuted in
        sorted_from_strictly_increasing (states_of lines)
        (IsStrictlyIncreasing-from_distinct (states_of lines) (rising lines sorted) (IsDistinct-IsPermutation nat_eq equal_swap (states_of all) (states_of lines) same (are.distinct guide.home placed)))

    of_row : All (λ line. (row : Row) × (rows (guide.home line.state) line.state ≡ Some row) × (line ≡ line_of line.state row)) lines
    of_row =
        All-weaker (IsLineBelow rows i) (λ line. (row : Row) × (rows (guide.home line.state) line.state ≡ Some row) × (line ≡ line_of line.state row))
        (λ line one. (one.2.0, subst (λ h. rows h line.state ≡ Some one.2.0) (placed one.0 line.state one.2.0 one.2.1) one.2.1, one.2.2))
        lines (All-permutation (IsLineBelow rows i) all lines permuted are.sound)

    pub are_lines : AreLinesOf guide rows lines
    are_lines =
        record {
          ascending = ascending;
          sound = of_row;
          complete = λ state row found.
              Contains-permutation all lines (line_of state row) permuted (are.complete (guide.home state) state row (below (guide.home state) state row found) found);
        }

-- ---- the certificate is valid

pub certifies : (rows : Rows) (weight stated : Weight) (lines : List Line) → weight ≡ stated → ((guide : Guide) → IsPlaced guide.home rows → AreLinesOf guide rows lines)
    → (space : Space) (guide : Guide) (incumbent : Option ℕ) (plan : Option Plan) → IsSound space guide (store_with rows weight incumbent) → IsQuiet (store_with rows weight incumbent)
    → IsPlanIfAny space plan → IsBackedBy incumbent plan → IsValid space guide.estimate (record { weight = stated; plan = plan; lines = lines })
certifies rows weight stated lines same are space guide incumbent plan sound quiet is_plan backed =
    subst (λ w. IsValid space guide.estimate (record { weight = w; plan = plan; lines = lines })) same
    (quiet_stores_certify space guide (store_with rows weight incumbent) plan lines sound quiet (are guide (λ home state row found. (sound.place home state row found).0)) is_plan backed)
