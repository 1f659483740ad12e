-- The states of a task have no more digits than its width says.
use Rattle.std.proofs.Common.{◌≡◌, ℕ, zero, suc, ◌+◌, ◌*◌, ◌/◌, ◌^◌, ◌<◌, ◌≤◌, IsTrue, nat_lt, if◌then◌else◌, refl, sym, subst, ap, arith, ◌∙◌}
use Rattle.std.proofs.lemmas.Bool.{and_parts, ltb-true}
use Rattle.std.proofs.lemmas.Nat.{pow-add}
use Rattle.std.proofs.Math.Nat.{pow-suc}
use Rattle.std.proofs.Math.Dec.{eqb-suc-zero}
use Rattle.pb_packed.specs.Sizes.{most_atoms, most_digits}
use Rattle.pb_task.specs.Widths.{digits_for, StatesFitTheirWidth}
use Rattle.pb_task.specs.Tiles.{cell_count, is_board, board_of, is_board_state, IsTiles}
use Rattle.pb_task.specs.Strips.{is_atom_set}
use Rattle.pb_task.specs.declared.parts.TilesParts.{TilesParts}
use Rattle.pb_task.specs.declared.parts.StripsParts.{StripsParts}
use Rattle.pb_task.specs.declared.parts.TaskParts.TheVariants.{Grid, Tiles, Strips}
use Rattle.pb_task.proofs.AtomSets.{more_than}
use Rattle.pb_task.proofs.Grids.{states_are_small}
use Rattle.pb_task.proofs.Sliding.{few_cells}

-- a digit is four bits
four_bits : (digits : ℕ) → 2 ^ (4 * digits) ≡ 16 ^ digits
four_bits zero = refl
four_bits (suc digits) =
    let more : 4 * suc digits ≡ 4 * digits + 4 = omega arith in
    ap (λ n. 2 ^ n) more ∙ pow-add 2 (4 * digits) 4 ∙ ap (λ n. n * 16) (four_bits digits) ∙ sym (pow-suc 16 digits)

digits_are : (bits : ℕ) → digits_for (suc bits) ≡ (suc bits + 3) / 4
digits_are bits = ap (λ test. if test then 1 else (suc bits + 3) / 4) (eqb-suc-zero bits)

-- so many bits have no more digits than that
bits_fit : (bits : ℕ) → 2 ^ bits ≤ 16 ^ digits_for bits
bits_fit zero = omega arith
bits_fit (suc bits) =
    subst (λ digits. 2 ^ suc bits ≤ 16 ^ digits) (sym (digits_are bits))
    (subst (λ n. 2 ^ suc bits ≤ n) (four_bits ((suc bits + 3) / 4)) (more_than (suc bits) (4 * ((suc bits + 3) / 4)) (omega arith)))

digits_are_some : (bits : ℕ) → 1 ≤ digits_for bits
digits_are_some zero = omega arith
digits_are_some (suc bits) = omega (arith, digits_are bits)

digits_are_few : (bits : ℕ) → bits ≤ most_atoms → digits_for bits ≤ most_digits
digits_are_few zero few = omega arith
digits_are_few (suc bits) few = omega (arith, digits_are bits, few)

-- a board has a cell at least
some_cells : (tiles : TilesParts) → IsTiles tiles → 1 ≤ cell_count tiles
some_cells tiles is = product tiles.rows tiles.cols is.rows.0 is.cols.0 where
  product : (rows cols : ℕ) → 2 ≤ rows → 2 ≤ cols → 1 ≤ rows * cols
  product rows cols r c = grind arith

boards_fit : (tiles : TilesParts) (state : ℕ) → IsTrue (is_board_state (cell_count tiles) state) → state < 16 ^ cell_count tiles
boards_fit tiles state e =
    ltb-true state (16 ^ cell_count tiles) (and_parts (nat_lt state (16 ^ cell_count tiles)) (is_board (cell_count tiles) (board_of (cell_count tiles) state)) e).0

sets_fit : (strips : StripsParts) (state : ℕ) → IsTrue (is_atom_set strips.atoms state) → state < 16 ^ digits_for strips.atoms
sets_fit strips state e =
    let small : state < 2 ^ strips.atoms = ltb-true state (2 ^ strips.atoms) e in
    let fits : 2 ^ strips.atoms ≤ 16 ^ digits_for strips.atoms = bits_fit strips.atoms in
    omega (arith, small, fits)

pub states_fit_their_width : StatesFitTheirWidth
states_fit_their_width (Grid grid) is = (omega arith, omega arith, λ state e. let few : state < 2 ^ 22 = states_are_small grid state e in omega arith)
states_fit_their_width (Tiles tiles) is =
    (some_cells tiles is, (let few : cell_count tiles ≤ 16 = few_cells tiles is in omega arith), boards_fit tiles)
states_fit_their_width (Strips strips) is = (digits_are_some strips.atoms, digits_are_few strips.atoms is.atoms, sets_fit strips)
