-- Lines that ascend and are those of the same rows are the same lines.
use Rattle.std.proofs.Common.{◌≡◌, ◌⊎◌, zero, suc, ◌<◌, List, [], ◌∷◌, map, Less, Some, refl, sym, subst, ap, inl, inr, arith, ◌∙◌}
use Rattle.std.specs.Prelude.{Contains}
use Rattle.std.specs.List.{AllByRecursion}
use Rattle.std.specs.List.Sorted.{IsStrictlySortedBy}
use Rattle.std.specs.Ordering.{nat_cmp}
use Rattle.std.proofs.lemmas.Cmp.{ranked}
use Rattle.std.proofs.lemmas.List.Elements.{All-contains}
use Rattle.pb_model.specs.declared.row.Row.{Row}
use Rattle.pb_model.specs.Guide.{Guide}
use Rattle.pb_model.specs.Store.{Rows}
use Rattle.pb_model.specs.Certificate.{Line, Ascends, AreLinesOf, line_of}
use Rattle.pb_cert.specs.Laws.{SoundRowsArePlaced, LinesAreUnique}

pub sound_rows_are_placed : SoundRowsArePlaced
sound_rows_are_placed space guide store sound home state row is = (sound.place home state row is).0

contains_cases : (x : Line) (xs : List Line) (q : Line) → Contains (x ∷ xs) q
    → (x ≡ q) ⊎ Contains xs q
contains_cases x xs q (zero, below, is) = inl is
contains_cases x xs q (suc k, below, is) = inr (k, omega (arith, below), is)

contains_first : (x : Line) (xs : List Line) → Contains (x ∷ xs) x
contains_first x xs = (zero, omega arith, refl)

contains_later : (x : Line) (xs : List Line) (q : Line) → Contains xs q → Contains (x ∷ xs) q
contains_later x xs q (k, below, is) = (suc k, omega (arith, below), is)

contains_none : (q : Line) → Contains [] q → ⊥
contains_none q (k, below, is) = absurd (omega (arith, below))

-- the first state is below those after it
Begins : Line → List Line → Type 0
Begins x xs = (q : Line) → Contains xs q → x.state < q.state

begins : (x : Line) (xs : List Line)
    → AllByRecursion (λ state. nat_cmp x.state state ≡ Less) (map (λ (line : Line). line.state) xs)
    → Begins x xs
unfolding Begins
begins x [] above q has = absurd (contains_none q has)
begins x (y ∷ ys) above q has = later (contains_cases y ys q has) (begins x ys above.1 q) where
  later : (y ≡ q) ⊎ Contains ys q → (Contains ys q → x.state < q.state) → x.state < q.state
  later (inl same) others =
      let below = ranked x.state y.state Less (sym above.0) in
      subst (λ (line : Line). x.state < line.state) same below
  later (inr has) others = others has

first_begins : (x : Line) (xs : List Line) → Ascends (x ∷ xs) → Begins x xs
unfolding IsStrictlySortedBy
first_begins x xs ascends = begins x xs ascends.0

rest_ascends : (x : Line) (xs : List Line) → Ascends (x ∷ xs) → Ascends xs
unfolding IsStrictlySortedBy
rest_ascends x xs ascends = ascends.1

Within : (xs ys : List Line) → Type 0
Within xs ys = (q : Line) → Contains xs q → Contains ys q

-- two lists that begin with the same line, each within the other
rest_within : (x : Line) (xs ys : List Line) → Begins x xs → Within (x ∷ xs) (x ∷ ys) → Within xs ys
unfolding Begins Within
rest_within x xs ys before within q has =
    later (contains_cases x ys q (within q (contains_later x xs q has))) where
      later : (x ≡ q) ⊎ Contains ys q → Contains ys q
      later (inl same) =
          let below = subst (λ (line : Line). x.state < line.state) (sym same) (before q has) in
          absurd (omega (arith, below))
      later (inr has) = has

same_first : (x : Line) (xs : List Line) (y : Line) (ys : List Line) → Begins x xs → Begins y ys
    → Within (x ∷ xs) (y ∷ ys) → Within (y ∷ ys) (x ∷ xs) → x ≡ y
unfolding Begins Within
same_first x xs y ys before other_before within other_within =
    both (contains_cases y ys x (within x (contains_first x xs)))
    (contains_cases x xs y (other_within y (contains_first y ys)))
  where
    both : (y ≡ x) ⊎ Contains ys x → (x ≡ y) ⊎ Contains xs y → x ≡ y
    both (inl same) other = sym same
    both (inr has) (inl same) = same
    both (inr has) (inr other) =
        let up = other_before x has in
        let down = before y other in
        absurd (omega (arith, up, down))

same_lines : (xs ys : List Line) → Ascends xs → Ascends ys → Within xs ys → Within ys xs → xs ≡ ys
unfolding Within
same_lines [] [] up down within other = refl
same_lines [] (y ∷ ys) up down within other =
    absurd (contains_none y (other y (contains_first y ys)))
same_lines (x ∷ xs) [] up down within other =
    absurd (contains_none x (within x (contains_first x xs)))
same_lines (x ∷ xs) (y ∷ ys) up down within other =
    let before = first_begins x xs up in
    let other_before = first_begins y ys down in
    let same : x ≡ y = same_first x xs y ys before other_before within other in
    let one : Within (x ∷ xs) (x ∷ ys) =
    subst (λ (line : Line). Within (x ∷ xs) (line ∷ ys)) (sym same) within in
    let two : Within (x ∷ ys) (x ∷ xs) =
    subst (λ (line : Line). Within (line ∷ ys) (x ∷ xs)) (sym same) other in
    let x_before : Begins x ys = subst (λ (line : Line). Begins line ys) (sym same) other_before in
    ap (λ (lines : List Line). x ∷ lines)
    (same_lines xs ys (rest_ascends x xs up) (rest_ascends y ys down)
    (rest_within x xs ys before one) (rest_within x ys xs x_before two))
    ∙ ap (λ (line : Line). line ∷ ys) same

-- each line of the one is one of the other
lines_within : (guide : Guide) (rows : Rows) (lines others : List Line)
    → AreLinesOf guide rows lines → AreLinesOf guide rows others → Within lines others
unfolding Within
lines_within guide rows lines others are other_are q has =
    let found = All-contains (λ (line : Line). (row : Row)
    × (rows (guide.home line.state) line.state ≡ Some row) × (line ≡ line_of line.state row))
    lines q are.sound has in
    subst (Contains others) (sym found.2) (other_are.complete q.state found.0 found.1)

pub lines_are_unique : LinesAreUnique
lines_are_unique guide rows lines others are other_are =
    same_lines lines others are.ascending other_are.ascending
    (lines_within guide rows lines others are other_are)
    (lines_within guide rows others lines other_are are)
