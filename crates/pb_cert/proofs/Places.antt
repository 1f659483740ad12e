-- The places of the rows of a store's parts, and their lines.
use Rattle.std.proofs.Common.{◌≡◌, ◌⊎◌, inl, inr, ℕ, zero, suc, ◌+◌, ◌<◌, ◌≤◌, Bor, None, Some, nat_eq, List, [], ◌∷◌, ◌++◌, map, take, length, slice_get, get_or, refl, sym, subst, ap, arith, ◌∙◌, append_assoc}
use Rattle.std.specs.Map.{keys_of}
use Rattle.std.specs.List.{IsDistinct}
use Rattle.std.specs.List.Sorted.{IsPermutation, IsNonDecreasingBy}
use Rattle.std.proofs.lemmas.Option.{slice_get_cases, same_Some}
use Rattle.std.proofs.lemmas.List.{length-append, length-map, get_or-map, map-append, map_more, take_all}
use Rattle.std.proofs.lemmas.List.Sorted.{IsPermutation-map, IsPermutation-append_right}
use Rattle.pb_model.specs.declared.row.Row.{Row}
use Rattle.pb_model.specs.Store.{Rows}
use Rattle.pb_model.specs.Guide.{Guide}
use Rattle.pb_model.specs.Certificate.{Line, AreLinesOf}
use Rattle.pb_lists.specs.Bundle.{Content, row_of}
use Rattle.pb_lists.specs.Store.{IsPlaced, HasNoneFrom}
use Rattle.pb_cert.specs.Listed.{entry_line, line_in, line_or, line_at, line_in_part, ArePartsOf}
use Rattle.pb_cert.specs.declared.rows.Place.{Place}
use Rattle.pb_cert.proofs.Sorted.{AreLinesBelow, next_part, in_any_order, none_below, are_lines}

-- ---- the places of a part

-- the places so far have the lines of the first entries
pub next_place : (content : Content) (own : List ℕ) (i : ℕ) → i < length content.entries → map (line_in content) own ≡ map entry_line (take i content.entries)
    → map (line_in content) (own ++ i ∷ []) ≡ map entry_line (take (i + 1) content.entries)
next_place content own i within so_far =
    map-append (line_in content) own (i ∷ []) ∙ ap (λ t. t ++ line_in content i ∷ []) so_far ∙ of_entry (slice_get_cases content.entries i).1
  where
    of_entry : ((x : ℕ × Row) × (i < length content.entries) × (slice_get content.entries i ≡ Some x) × (get_or content.entries i x ≡ x)) ⊎ ((length content.entries ≤ i) × (slice_get content.entries i ≡ None))
        → map entry_line (take i content.entries) ++ line_in content i ∷ [] ≡ map entry_line (take (i + 1) content.entries)
    of_entry (inl found) =
        ap (λ (line : Line). map entry_line (take i content.entries) ++ line ∷ []) (ap line_or found.2 ∙ ap entry_line (sym found.3)) ∙ sym (map_more entry_line content.entries i found.0 within)
    of_entry (inr past) = absurd (omega (arith, past.0, within))

-- the place of a row in the part of this number
abbrev pub place_in : (part at : ℕ) → Place
place_in part at = record { part = part; at = at }

pub next_pushed : (part i at : ℕ) (own : List ℕ) (before places : List Place) → i < length own → get_or own i 0 ≡ at → places ≡ before ++ map (place_in part) (take i own)
    → places ++ place_in part at ∷ [] ≡ before ++ map (place_in part) (take (i + 1) own)
next_pushed part i at own before places within is so_far =
    ap (λ t. t ++ place_in part at ∷ []) so_far ∙ append_assoc before (map (place_in part) (take i own)) (place_in part at ∷ [])
    ∙ ap (λ k. before ++ (map (place_in part) (take i own) ++ place_in part k ∷ [])) (sym is) ∙ sym (ap (λ t. before ++ t) (map_more (place_in part) own i 0 within))

module _ (parts : List (Bor Content)) (part : ℕ) (own : Bor Content) (content : Content) (there : slice_get parts part ≡ Some own) (same : own.now ≡ content) where
  lines_are : (places : List ℕ) → map (line_at parts) (map (place_in part) places) ≡ map (line_in content) places
  lines_are [] = refl
  lines_are (at ∷ places) =
      ap (λ (line : Line). line ∷ map (line_at parts) (map (place_in part) places)) (ap (λ p. line_in_part p at) there ∙ ap (λ c. line_in c at) same)
      ∙ ap (λ (t : List Line). line_in content at ∷ t) (lines_are places)

  -- the places that were added have the lines of the entries
  pub part_added : (old new : List Place) (unsorted sorted : List ℕ) (i k : ℕ) → length content.entries ≤ i → map (line_in content) unsorted ≡ map entry_line (take i content.entries) → IsPermutation unsorted sorted
      → length sorted ≤ k → new ≡ old ++ map (place_in part) (take k sorted) → IsPermutation (map (line_at parts) old ++ map entry_line content.entries) (map (line_at parts) new)
  part_added old new unsorted sorted i k all unsorted_is permuted whole new_is =
      let entries_are : map (line_in content) unsorted ≡ map entry_line content.entries = unsorted_is ∙ ap (λ entries. map entry_line entries) (take_all i content.entries all) in
      let lines : map (line_at parts) new ≡ map (line_at parts) old ++ map (line_in content) sorted =
      ap (map (line_at parts)) (new_is ∙ ap (λ (at : List ℕ). old ++ map (place_in part) at) (take_all k sorted whole)) ∙ map-append (line_at parts) old (map (place_in part) sorted)
      ∙ ap (λ t. map (line_at parts) old ++ t) (lines_are sorted) in
      let own_permuted : IsPermutation (map entry_line content.entries) (map (line_in content) sorted) =
      subst (λ xs. IsPermutation xs (map (line_in content) sorted)) entries_are (IsPermutation-map (line_in content) unsorted sorted permuted) in
      subst (λ ys. IsPermutation (map (line_at parts) old ++ map entry_line content.entries) ys) (sym lines)
      (IsPermutation-append_right (map (line_at parts) old) (map entry_line content.entries) (map (line_in content) sorted) own_permuted)

-- ---- the parts

-- what holds of each element of a list, by its place, and of one more behind it, holds of each of the longer list
pub one_more : {X : Type 0} (P : ℕ → X → Type 0) (xs : List X) (x : X) → ((k : ℕ) (y : X) → slice_get xs k ≡ Some y → P k y) → P (length xs) x → (k : ℕ) (y : X) → slice_get (xs ++ x ∷ []) k ≡ Some y → P k y
one_more P [] x each last zero y is = subst (P 0) (same_Some x y is) last
one_more P [] x each last (suc k) y is = absurd cc
one_more P (first ∷ xs) x each last zero y is = each 0 y is
one_more P (first ∷ xs) x each last (suc k) y is = one_more (λ n. P (suc n)) xs x (λ n. each (suc n)) last k y is

-- the first parts are those of the rows
pub record AreFirstPartsOf (rows : Rows) (i : ℕ) (parts : List (Bor Content)) : Type 0 where
  pub many : length parts ≡ i
  pub same : (k : ℕ) (part : Bor Content) → slice_get parts k ≡ Some part → (state : ℕ) → row_of part.now state ≡ rows k state

pub no_parts : (rows : Rows) (parts : List (Bor Content)) → parts ≡ [] → AreFirstPartsOf rows 0 parts
no_parts rows parts none = subst (AreFirstPartsOf rows 0) (sym none) (record { many = refl; same = λ k part is. absurd cc })

pub next_of_parts : (rows : Rows) (i : ℕ) (parts : List (Bor Content)) (part : Bor Content) → ((state : ℕ) → row_of part.now state ≡ rows i state) → AreFirstPartsOf rows i parts → AreFirstPartsOf rows (i + 1) (parts ++ part ∷ [])
next_of_parts rows i parts part same are =
    record {
      many = omega (arith, length-append parts (part ∷ []), are.many);
      same = one_more (λ k p. (state : ℕ) → row_of p.now state ≡ rows k state) parts part are.same (subst (λ n. (state : ℕ) → row_of part.now state ≡ rows n state) (sym are.many) same);
    }

pub all_parts : (rows : Rows) (i count : ℕ) (parts : List (Bor Content)) → i ≡ count → AreFirstPartsOf rows i parts → ArePartsOf rows count parts
all_parts rows i count parts same are = record { many = are.many ∙ same; same = are.same }

-- ---- the places of all parts

-- whatever rows these are the parts of, the places have the lines of the first parts
pub HaveLinesBelow : (parts : List (Bor Content)) (i : ℕ) → List Place → Type 0
HaveLinesBelow parts i places = (rows : Rows) → ArePartsOf rows (length parts) parts → AreLinesBelow rows i (map (line_at parts) places)

pub no_places : (parts : List (Bor Content)) (places : List Place) → places ≡ [] → HaveLinesBelow parts 0 places
unfolding HaveLinesBelow
no_places parts places none rows are = none_below rows (map (line_at parts) places) (ap (map (line_at parts)) none)

pub next_places : (parts : List (Bor Content)) (i : ℕ) (own : Bor Content) (old new : List Place) → slice_get parts i ≡ Some own → IsDistinct nat_eq (keys_of own.now.entries)
    → IsPermutation (map (line_at parts) old ++ map entry_line own.now.entries) (map (line_at parts) new) → HaveLinesBelow parts i old → HaveLinesBelow parts (i + 1) new
unfolding HaveLinesBelow
next_places parts i own old new there distinct added before rows are =
    in_any_order rows (i + 1) (map (line_at parts) old ++ map entry_line own.now.entries) (map (line_at parts) new) added
    (next_part rows i (map (line_at parts) old) own.now.entries (are.same i own there) distinct (before rows are))

sorted_lines : (parts : List (Bor Content)) (places : List Place) → IsNonDecreasingBy (λ place. (line_at parts place).state) places → IsNonDecreasingBy (λ (line : Line). line.state) (map (line_at parts) places)
sorted_lines parts places sorted i j d le below =
    let within : j < length places = subst (λ n. j < n) (length-map places (line_at parts)) below in
    let none : Place = record { part = 0; at = 0 } in
    rw (get_or-map (line_at parts) places i none d (omega (arith, le, within)), get_or-map (line_at parts) places j none d within) (sorted i j none le within)

pub all_places : (parts : List (Bor Content)) (i : ℕ) (unsorted sorted : List Place) → length parts ≤ i → IsPermutation unsorted sorted → IsNonDecreasingBy (λ place. (line_at parts place).state) sorted → HaveLinesBelow parts i unsorted
    → (rows : Rows) (guide : Guide) → ArePartsOf rows (length parts) parts → HasNoneFrom rows (length parts) → IsPlaced guide.home rows → AreLinesOf guide rows (map (line_at parts) sorted)
unfolding HaveLinesBelow
all_places parts i unsorted sorted whole permuted rising have rows guide are beyond placed =
    are_lines rows (length parts) i beyond whole (map (line_at parts) unsorted) (map (line_at parts) sorted) (have rows are) (IsPermutation-map (line_at parts) unsorted sorted permuted) (sorted_lines parts sorted rising) guide placed

-- the lines of the places are those of a store's rows
pub lines_of_store : (rows : Rows) (count : ℕ) (parts lent : List (Bor Content)) (places : List Place) → lent ≡ parts → ArePartsOf rows count parts → HasNoneFrom rows count
    → ((rows : Rows) (guide : Guide) → ArePartsOf rows (length lent) lent → HasNoneFrom rows (length lent) → IsPlaced guide.home rows → AreLinesOf guide rows (map (line_at lent) places))
    → (guide : Guide) → IsPlaced guide.home rows → AreLinesOf guide rows (map (line_at parts) places)
lines_of_store rows count parts lent places same are beyond lines guide placed =
    let many : length parts ≡ count = are.many in
    let here : (xs : List (Bor Content)) → xs ≡ parts → ((rows : Rows) (guide : Guide) → ArePartsOf rows (length xs) xs → HasNoneFrom rows (length xs) → IsPlaced guide.home rows → AreLinesOf guide rows (map (line_at xs) places)) → AreLinesOf guide rows (map (line_at parts) places) = λ xs is lines.
    subst (λ ys. AreLinesOf guide rows (map (line_at ys) places)) is
    (lines rows guide (subst (λ ys. ArePartsOf rows (length ys) ys) (sym is) (subst (λ n. ArePartsOf rows n parts) (sym many) are)) (subst (λ n. HasNoneFrom rows n) (sym (ap length is ∙ many)) beyond) placed) in
    here lent same lines
