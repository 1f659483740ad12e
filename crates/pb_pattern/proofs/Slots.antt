-- The cells of some pieces, as digits of a number.
use Rattle.std.proofs.Common.{◌≡◌, ℕ, zero, suc, ◌+◌, ◌-◌, ◌*◌, ◌%◌, ◌^◌, ◌<◌, ◌≤◌, Bool, true, nat_lt, map, Option, None, Some, if◌then◌else◌, slice_index, refl, sym, ap, ◌∙◌, arith}
use Rattle.std.specs.List.{list_all}
use Rattle.std.proofs.lemmas.Bool.{and_parts, and_from, lt-ltb, ltb-true}
use Rattle.pb_task.specs.Tiles.{board_state, board_of, neighbour}
use Rattle.pb_pattern.specs.declared.pieces.Pieces.{Pieces}
use Rattle.pb_pattern.specs.Least.{HasStatesBelow}
use Rattle.pb_pattern.specs.Projected.{cell_after, placing_after, placing_step}
use Rattle.pb_pattern.specs.Graphs.{board_space, IsPieces}

-- how many placings there are
pub placings_are : (count : ℕ) → count ≤ 4 → 1 * 2 ^ (4 * count) % 4294967296 ≡ 16 ^ count
placings_are zero few = refl
placings_are (suc zero) few = refl
placings_are (suc (suc zero)) few = refl
placings_are (suc (suc (suc zero))) few = refl
placings_are (suc (suc (suc (suc zero)))) few = refl
placings_are (suc (suc (suc (suc (suc more))))) few = absurd (omega (arith, few))

pub few_placings : (count : ℕ) → count ≤ 4 → 16 ^ count ≤ 65536
few_placings zero few = omega arith
few_placings (suc zero) few = omega arith
few_placings (suc (suc zero)) few = omega arith
few_placings (suc (suc (suc zero))) few = omega arith
few_placings (suc (suc (suc (suc zero)))) few = omega arith
few_placings (suc (suc (suc (suc (suc more))))) few = absurd (omega (arith, few))

module _ (pieces : Pieces) (is : IsPieces pieces) where
  pub pieces_below : HasStatesBelow (board_space pieces) (16 ^ pieces.count)
  pieces_below placing at = ltb-true placing (16 ^ pieces.count) (and_parts _ _ at).0

  first_cell : (count image : ℕ) → 1 ≤ count → slice_index (board_of count image) 0 ≡ image % 16
  first_cell zero image some = absurd (omega (arith, some))
  first_cell (suc count) image some = refl

  -- the step from an image whose pieces are in cells of the board
  step_is : (image action : ℕ) → image < 16 ^ pieces.count → list_all (λ cell. nat_lt cell (pieces.rows * pieces.cols)) (board_of pieces.count image) ≡ true
      → (board_space pieces).step image action ≡ placing_after (board_of pieces.count image) (image % 16) (neighbour pieces.rows pieces.cols (image % 16) action)
  step_is image action small cells =
      ap (λ test. if test then placing_step pieces.rows pieces.cols (board_of pieces.count image) action else None)
      (and_from (nat_lt image (16 ^ pieces.count)) (list_all (λ cell. nat_lt cell (pieces.rows * pieces.cols)) (board_of pieces.count image)) (lt-ltb image (16 ^ pieces.count) small) cells)
      ∙ ap (λ b. placing_after (board_of pieces.count image) b (neighbour pieces.rows pieces.cols b action)) (first_cell pieces.count image is.count.0)

  pub step_none : (image action : ℕ) (cells : Bool) (other : Option ℕ) → image < 16 ^ pieces.count → cells ≡ list_all (λ cell. nat_lt cell (pieces.rows * pieces.cols)) (board_of pieces.count image) → cells ≡ true
      → other ≡ neighbour pieces.rows pieces.cols (image % 16) action → other ≡ None → ◌≡◌ {A = Option (ℕ × ℕ)} None ((board_space pieces).step image action)
  step_none image action cells other small are there_are there none =
      sym (step_is image action small (sym are ∙ there_are) ∙ ap (placing_after (board_of pieces.count image) (image % 16)) (sym there ∙ none))

  pub step_some : (image action : ℕ) (cells : Bool) (other : Option ℕ) (to after : ℕ) → image < 16 ^ pieces.count → cells ≡ list_all (λ cell. nat_lt cell (pieces.rows * pieces.cols)) (board_of pieces.count image) → cells ≡ true
      → other ≡ neighbour pieces.rows pieces.cols (image % 16) action → other ≡ Some to → after ≡ board_state (map (cell_after (image % 16) to) (board_of pieces.count image))
      → ◌≡◌ {A = Option (ℕ × ℕ)} (Some (after, 1)) ((board_space pieces).step image action)
  step_some image action cells other to after small are there_are there some after_is =
      ap (λ n. Some (n, 1)) after_is ∙ sym (step_is image action small (sym are ∙ there_are) ∙ ap (placing_after (board_of pieces.count image) (image % 16)) (sym there ∙ some))

-- one more digit
pub one_more_digit : (count rest cell : ℕ) → (count ≡ 0 → ⊥) → count ≤ 4 → rest < 16 ^ (count - 1) → cell < 16 → cell + 16 * rest < 16 ^ count
one_more_digit zero rest cell some few less small = absurd (some refl)
one_more_digit (suc zero) rest cell some few less small = omega (arith, less, small)
one_more_digit (suc (suc zero)) rest cell some few less small = omega (arith, less, small)
one_more_digit (suc (suc (suc zero))) rest cell some few less small = omega (arith, less, small)
one_more_digit (suc (suc (suc (suc zero)))) rest cell some few less small = omega (arith, less, small)
one_more_digit (suc (suc (suc (suc (suc more))))) rest cell some few less small = absurd (omega (arith, few))

pub digit_fits : (count rest cell : ℕ) → (count ≡ 0 → ⊥) → count ≤ 4 → rest < 16 ^ (count - 1) → cell < 16 → cell + 16 * rest < 65536
digit_fits count rest cell some few less small =
    let one : cell + 16 * rest < 16 ^ count = one_more_digit count rest cell some few less small in
    let most : 16 ^ count ≤ 65536 = few_placings count few in
    omega (arith, one, most)
