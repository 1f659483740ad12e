-- Quotients by the side of a square, of a number and of the numbers before and after it.
use Rattle.std.proofs.Common.{◌≡◌, ℕ, zero, suc, ◌+◌, ◌-◌, ◌*◌, ◌/◌, ◌%◌, ◌<◌, ◌≤◌, Bool, true, false, Option, None, Some, nat_lt, if◌then◌else◌, refl, sym, ap, ◌∙◌, arith, ◌⊎◌, inl, inr}
use Rattle.std.specs.Int.{div_ceil}
use Rattle.std.proofs.lemmas.Bool.{cases_lt, lt-ltb}
use Rattle.std.proofs.lemmas.Nat.{div-mul-add, div-add-mod', mod_below}
use Rattle.std.proofs.lemmas.Grind.{div_ceil_times}
use Rattle.std.proofs.Math.Nat.{div-lt_iff_lt-mul}
use Rattle.pb_model.proofs.Callers.{below}
use Rattle.pb_task.specs.Grid.{cell_beside}
use Rattle.pb_abstract.specs.Borders.{border_cell}

-- a number below the whole has a quotient below the number of parts
pub fits_parts : (whole side n : ℕ) → 0 < side → n < whole → n / side < div_ceil whole side
fits_parts whole side n some less =
    let up : whole ≤ div_ceil whole side * side = (div_ceil_times whole side some).0 in
    (div-lt_iff_lt-mul {k = side} {x = n} {y = div_ceil whole side} some).1 (omega (arith, up, less))

-- the quotient of a multiple with a rest
pub quotient : (q side rest n : ℕ) → rest < side → n ≡ q * side + rest → n / side ≡ q
quotient q side rest n less is = ap (λ m. m / side) is ∙ div-mul-add q side rest less

one_up : (q side : ℕ) → (q + 1) * side ≡ q * side + side
one_up q side = grind arith

one_down : (q side : ℕ) → 0 < q → q * side ≡ (q - 1) * side + side
one_down q side some = let e : (q - 1) + 1 ≡ q = omega arith in ap (λ n. n * side) (sym e) ∙ one_up (q - 1) side

pub after_last : (q side : ℕ) → 0 < side → (q * side + (side - 1) + 1) / side ≡ q + 1
after_last q side some = let e = one_up q side in quotient (q + 1) side 0 (q * side + (side - 1) + 1) some (omega arith)

pub before_first : (q side : ℕ) → 0 < side → 0 < q → (q * side - 1) / side ≡ q - 1
before_first q side some more = let e = one_down q side more in quotient (q - 1) side (side - 1) (q * side - 1) (omega arith) (omega arith)

pub at_first : (q side : ℕ) → 0 < side → (q * side) / side ≡ q
at_first q side some = quotient q side 0 (q * side) some (omega arith)

-- the number after n is in the same part, or n is the last of its part
pub after : (n side : ℕ) → 0 < side → ((n + 1) / side ≡ n / side) ⊎ ((n ≡ (n / side) * side + (side - 1)) × ((n + 1) / side ≡ n / side + 1))
after n side some = go (cases_lt (n % side + 1) side) where
  whole : (n / side) * side + n % side ≡ n
  whole = div-add-mod' n side

  rest : n % side < side
  rest = mod_below n side some

  go : ((n % side + 1 < side) ⊎ (side ≤ n % side + 1)) → ((n + 1) / side ≡ n / side) ⊎ ((n ≡ (n / side) * side + (side - 1)) × ((n + 1) / side ≡ n / side + 1))
  go (inl less) = inl (quotient (n / side) side (n % side + 1) (n + 1) less (omega (arith, whole)))
  go (inr more) =
      let is : n ≡ (n / side) * side + (side - 1) = omega (arith, whole, rest, more) in
      inr (is, ap (λ m. (m + 1) / side) is ∙ after_last (n / side) side some)

some_factor : (q side : ℕ) → 0 < q * side → 0 < q
some_factor zero side h = omega arith
some_factor (suc q) side h = omega arith

-- the number before n is in the same part, or n is the first of its part
pub before : (n side : ℕ) → 0 < side → 0 < n → ((n - 1) / side ≡ n / side) ⊎ ((n ≡ (n / side) * side) × (0 < n / side) × ((n - 1) / side ≡ n / side - 1))
before n side some more = go (n % side) refl where
  whole : (n / side) * side + n % side ≡ n
  whole = div-add-mod' n side

  rest : n % side < side
  rest = mod_below n side some

  go : (r : ℕ) → n % side ≡ r → ((n - 1) / side ≡ n / side) ⊎ ((n ≡ (n / side) * side) × (0 < n / side) × ((n - 1) / side ≡ n / side - 1))
  go zero e =
      let is : n ≡ (n / side) * side = omega (arith, whole, e) in
      let up : 0 < n / side = some_factor (n / side) side (omega (arith, is, more)) in
      inr (is, up, ap (λ m. (m - 1) / side) is ∙ before_first (n / side) side some up)
  go (suc r) e = inl (quotient (n / side) side r (n - 1) (omega (arith, rest, e)) (omega (arith, whole, e)))

-- ---- borders

-- a cell on the border of a square lies in it, and the cell beside it there lies in the square beside
pub record IsBorder (side column row action x y : ℕ) (cell : ℕ × ℕ) : Type 0 where
  pub column_is : x / side ≡ column
  pub row_is : y / side ≡ row
  pub beside : cell_beside column row action ≡ Some (cell.0 / side, cell.1 / side)

-- a pair from its parts
pair : (a b c d : ℕ) → a ≡ c → b ≡ d → ◌≡◌ {A = Option (ℕ × ℕ)} (Some (a, b)) (Some (c, d))
pair a b c d e f = ap (λ n. Some (n, b)) e ∙ ap (λ n. Some (c, n)) f

chosen : (test : Bool) (value : Option (ℕ × ℕ)) → test ≡ true → (if test then value else None) ≡ value
chosen true value e = refl
chosen false value e = cc

up_to : (x y : ℕ) (to : Option (ℕ × ℕ)) → 0 < y → Some (x, y - 1) ≡ to → cell_beside x y 0 ≡ to
up_to x y to some e = chosen (nat_lt 0 y) (Some (x, y - 1)) (lt-ltb 0 y some) ∙ e

left_to : (x y : ℕ) (to : Option (ℕ × ℕ)) → 0 < x → Some (x - 1, y) ≡ to → cell_beside x y 2 ≡ to
left_to x y to some e = chosen (nat_lt 0 x) (Some (x - 1, y)) (lt-ltb 0 x some) ∙ e

pub border_is : (side column row action i : ℕ) (cell : ℕ × ℕ) → i < side → cell_beside (border_cell side column row action i).0 (border_cell side column row action i).1 action ≡ Some cell
    → IsBorder side column row action (border_cell side column row action i).0 (border_cell side column row action i).1 cell
border_is side column row zero i cell less e = go (nat_lt 0 (row * side)) refl e where
  some : 0 < side
  some = omega arith

  go : (test : Bool) → nat_lt 0 (row * side) ≡ test → ◌≡◌ {A = Option (ℕ × ℕ)} (if test then Some (column * side + i, row * side - 1) else None) (Some cell)
      → IsBorder side column row zero (column * side + i) (row * side) cell
  go false is e = cc
  go true is e =
      let up : 0 < row = some_factor row side (below 0 (row * side) is) in
      let same : ◌≡◌ {A = ℕ × ℕ} (column * side + i, row * side - 1) cell = cc in
      let x : column ≡ cell.0 / side = sym (quotient column side i (column * side + i) less refl) ∙ ap (λ (c : ℕ × ℕ). c.0 / side) same in
      let y : row - 1 ≡ cell.1 / side = sym (before_first row side some up) ∙ ap (λ (c : ℕ × ℕ). c.1 / side) same in
      record {
        column_is = quotient column side i (column * side + i) less refl;
        row_is = at_first row side some;
        beside = up_to column row (Some (cell.0 / side, cell.1 / side)) up (pair column (row - 1) (cell.0 / side) (cell.1 / side) x y);
      }
border_is side column row (suc zero) i cell less e =
    let some : 0 < side = omega arith in
    let same : ◌≡◌ {A = ℕ × ℕ} (column * side + i, row * side + (side - 1) + 1) cell = cc in
    let x : column ≡ cell.0 / side = sym (quotient column side i (column * side + i) less refl) ∙ ap (λ (c : ℕ × ℕ). c.0 / side) same in
    let y : row + 1 ≡ cell.1 / side = sym (after_last row side some) ∙ ap (λ (c : ℕ × ℕ). c.1 / side) same in
    record {
      column_is = quotient column side i (column * side + i) less refl;
      row_is = quotient row side (side - 1) (row * side + (side - 1)) (omega arith) refl;
      beside = pair column (row + 1) (cell.0 / side) (cell.1 / side) x y;
    }
border_is side column row (suc (suc zero)) i cell less e = go (nat_lt 0 (column * side)) refl e where
  some : 0 < side
  some = omega arith

  go : (test : Bool) → nat_lt 0 (column * side) ≡ test → ◌≡◌ {A = Option (ℕ × ℕ)} (if test then Some (column * side - 1, row * side + i) else None) (Some cell)
      → IsBorder side column row (suc (suc zero)) (column * side) (row * side + i) cell
  go false is e = cc
  go true is e =
      let up : 0 < column = some_factor column side (below 0 (column * side) is) in
      let same : ◌≡◌ {A = ℕ × ℕ} (column * side - 1, row * side + i) cell = cc in
      let x : column - 1 ≡ cell.0 / side = sym (before_first column side some up) ∙ ap (λ (c : ℕ × ℕ). c.0 / side) same in
      let y : row ≡ cell.1 / side = sym (quotient row side i (row * side + i) less refl) ∙ ap (λ (c : ℕ × ℕ). c.1 / side) same in
      record {
        column_is = at_first column side some;
        row_is = quotient row side i (row * side + i) less refl;
        beside = left_to column row (Some (cell.0 / side, cell.1 / side)) up (pair (column - 1) row (cell.0 / side) (cell.1 / side) x y);
      }
border_is side column row (suc (suc (suc zero))) i cell less e =
    let some : 0 < side = omega arith in
    let same : ◌≡◌ {A = ℕ × ℕ} (column * side + (side - 1) + 1, row * side + i) cell = cc in
    let x : column + 1 ≡ cell.0 / side = sym (after_last column side some) ∙ ap (λ (c : ℕ × ℕ). c.0 / side) same in
    let y : row ≡ cell.1 / side = sym (quotient row side i (row * side + i) less refl) ∙ ap (λ (c : ℕ × ℕ). c.1 / side) same in
    record {
      column_is = quotient column side (side - 1) (column * side + (side - 1)) (omega arith) refl;
      row_is = quotient row side i (row * side + i) less refl;
      beside = pair (column + 1) row (cell.0 / side) (cell.1 / side) x y;
    }
border_is side column row (suc (suc (suc (suc more)))) i cell less e = cc

-- the cell beside a cell lies in the same square, or the cell lies on the border of its square there
pub record IsOnBorder (side x y action : ℕ) (cell : ℕ × ℕ) : Type 0 where
  pub i : ℕ
  pub within : i < side
  pub is : border_cell side (x / side) (y / side) action i ≡ (x, y)
  pub beside : cell_beside (x / side) (y / side) action ≡ Some (cell.0 / side, cell.1 / side)

whole_of : (n side : ℕ) → n ≡ (n / side) * side + n % side
whole_of n side = sym (div-add-mod' n side)

pub on_border : (side x y action : ℕ) (cell : ℕ × ℕ) → 0 < side → cell_beside x y action ≡ Some cell
    → ((cell.0 / side ≡ x / side) × (cell.1 / side ≡ y / side)) ⊎ IsOnBorder side x y action cell
on_border side x y zero cell some e = go (nat_lt 0 y) refl e where
  at : (x, y - 1) ≡ cell → 0 < y → (((y - 1) / side ≡ y / side) ⊎ ((y ≡ (y / side) * side) × (0 < y / side) × ((y - 1) / side ≡ y / side - 1)))
      → ((cell.0 / side ≡ x / side) × (cell.1 / side ≡ y / side)) ⊎ IsOnBorder side x y zero cell
  at same up (inl stays) = inl (ap (λ (c : ℕ × ℕ). c.0 / side) (sym same), ap (λ (c : ℕ × ℕ). c.1 / side) (sym same) ∙ stays)
  at same up (inr (first, some', down)) = inr record {
    i = x % side;
    within = mod_below x side some;
    is = ap (λ n. (n, (y / side) * side)) (sym (whole_of x side)) ∙ ap (λ n. (x, n)) (sym first);
    beside = ap (λ t. if t then Some (x / side, y / side - 1) else None) (lt-ltb 0 (y / side) some') ∙ ap (λ n. Some (x / side, n)) (sym down) ∙ ap (λ (c : ℕ × ℕ). Some (c.0 / side, c.1 / side)) same;
  }

  go : (test : Bool) → nat_lt 0 y ≡ test → ◌≡◌ {A = Option (ℕ × ℕ)} (if test then Some (x, y - 1) else None) (Some cell)
      → ((cell.0 / side ≡ x / side) × (cell.1 / side ≡ y / side)) ⊎ IsOnBorder side x y zero cell
  go false is e = cc
  go true is e = at (let same : ◌≡◌ {A = ℕ × ℕ} (x, y - 1) cell = cc in same) (below 0 y is) (before y side some (below 0 y is))
on_border side x y (suc zero) cell some e = at (let same : ◌≡◌ {A = ℕ × ℕ} (x, y + 1) cell = cc in same) (after y side some) where
  at : (x, y + 1) ≡ cell → (((y + 1) / side ≡ y / side) ⊎ ((y ≡ (y / side) * side + (side - 1)) × ((y + 1) / side ≡ y / side + 1)))
      → ((cell.0 / side ≡ x / side) × (cell.1 / side ≡ y / side)) ⊎ IsOnBorder side x y (suc zero) cell
  at same (inl stays) = inl (ap (λ (c : ℕ × ℕ). c.0 / side) (sym same), ap (λ (c : ℕ × ℕ). c.1 / side) (sym same) ∙ stays)
  at same (inr (last, up)) = inr record {
    i = x % side;
    within = mod_below x side some;
    is = ap (λ n. (n, (y / side) * side + (side - 1))) (sym (whole_of x side)) ∙ ap (λ n. (x, n)) (sym last);
    beside = ap (λ n. Some (x / side, n)) (sym up) ∙ ap (λ (c : ℕ × ℕ). Some (c.0 / side, c.1 / side)) same;
  }
on_border side x y (suc (suc zero)) cell some e = go (nat_lt 0 x) refl e where
  at : (x - 1, y) ≡ cell → 0 < x → (((x - 1) / side ≡ x / side) ⊎ ((x ≡ (x / side) * side) × (0 < x / side) × ((x - 1) / side ≡ x / side - 1)))
      → ((cell.0 / side ≡ x / side) × (cell.1 / side ≡ y / side)) ⊎ IsOnBorder side x y (suc (suc zero)) cell
  at same up (inl stays) = inl (ap (λ (c : ℕ × ℕ). c.0 / side) (sym same) ∙ stays, ap (λ (c : ℕ × ℕ). c.1 / side) (sym same))
  at same up (inr (first, some', down)) = inr record {
    i = y % side;
    within = mod_below y side some;
    is = ap (λ n. ((x / side) * side, n)) (sym (whole_of y side)) ∙ ap (λ n. (n, y)) (sym first);
    beside = ap (λ t. if t then Some (x / side - 1, y / side) else None) (lt-ltb 0 (x / side) some') ∙ ap (λ n. Some (n, y / side)) (sym down) ∙ ap (λ (c : ℕ × ℕ). Some (c.0 / side, c.1 / side)) same;
  }

  go : (test : Bool) → nat_lt 0 x ≡ test → ◌≡◌ {A = Option (ℕ × ℕ)} (if test then Some (x - 1, y) else None) (Some cell)
      → ((cell.0 / side ≡ x / side) × (cell.1 / side ≡ y / side)) ⊎ IsOnBorder side x y (suc (suc zero)) cell
  go false is e = cc
  go true is e = at (let same : ◌≡◌ {A = ℕ × ℕ} (x - 1, y) cell = cc in same) (below 0 x is) (before x side some (below 0 x is))
on_border side x y (suc (suc (suc zero))) cell some e = at (let same : ◌≡◌ {A = ℕ × ℕ} (x + 1, y) cell = cc in same) (after x side some) where
  at : (x + 1, y) ≡ cell → (((x + 1) / side ≡ x / side) ⊎ ((x ≡ (x / side) * side + (side - 1)) × ((x + 1) / side ≡ x / side + 1)))
      → ((cell.0 / side ≡ x / side) × (cell.1 / side ≡ y / side)) ⊎ IsOnBorder side x y (suc (suc (suc zero))) cell
  at same (inl stays) = inl (ap (λ (c : ℕ × ℕ). c.0 / side) (sym same) ∙ stays, ap (λ (c : ℕ × ℕ). c.1 / side) (sym same))
  at same (inr (last, up)) = inr record {
    i = y % side;
    within = mod_below y side some;
    is = ap (λ n. ((x / side) * side + (side - 1), n)) (sym (whole_of y side)) ∙ ap (λ n. (n, y)) (sym last);
    beside = ap (λ n. Some (n, y / side)) (sym up) ∙ ap (λ (c : ℕ × ℕ). Some (c.0 / side, c.1 / side)) same;
  }
on_border side x y (suc (suc (suc (suc more)))) cell some e = cc
