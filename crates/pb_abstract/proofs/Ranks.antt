-- Numbers of placings: placings of one number agree in the cells that the number tells of, and numbers are below their count.
use Rattle.std.proofs.Common.{◌≡◌, ◌≢◌, ℕ, ◌+◌, ◌-◌, ◌*◌, ◌/◌, ◌%◌, ◌<◌, ◌≤◌, refl, sym, subst, ap, arith, ◌∙◌}
use Rattle.std.proofs.lemmas.Bool.Decides.{nat_tests}
use Rattle.std.proofs.lemmas.Nat.{div-mul-add, mod-mul-add, mul-add-lt}
use Rattle.std.proofs.Math.Nat.{mul_comm}
use Rattle.pb_task.specs.declared.parts.TilesParts.{TilesParts}
use Rattle.pb_task.specs.Tiles.{cell_count, IsTiles}
use Rattle.pb_abstract.specs.declared.placing.Placing.{Placing}
use Rattle.pb_abstract.specs.declared.projection.Projection.{Projection}
use Rattle.pb_abstract.specs.declared.projection.Projection.TheVariants.{Squares, Blank, BlankAndOne, BlankAndTwo, Atoms}
use Rattle.pb_abstract.specs.Placings.{IsPlacing, placing_count, placing_number, placing_after, tile_after, rank_beside, rank_beside_two}

pub four_cells : (tiles : TilesParts) → IsTiles tiles → 4 ≤ cell_count tiles
four_cells tiles is = go tiles.rows tiles.cols is.rows.0 is.cols.0 where
  go : (rows cols : ℕ) → 2 ≤ rows → 2 ≤ cols → 4 ≤ rows * cols
  go rows cols r c = grind arith

pub placing_same : (b f s b' f' s' : ℕ) → b ≡ b' → f ≡ f' → s ≡ s' → ◌≡◌ {A = Placing} (record { blank = b; first = f; second = s }) (record { blank = b'; first = f'; second = s' })
placing_same b f s b' f' s' e g h =
    ap (λ n. let p : Placing = record { blank = n; first = f; second = s } in p) e
    ∙ ap (λ n. let p : Placing = record { blank = b'; first = n; second = s } in p) g ∙ ap (λ n. let p : Placing = record { blank = b'; first = f'; second = n } in p) h

-- ---- ranks

pub rank_small : (count taken cell : ℕ) → taken < count → cell < count → cell ≢ taken → rank_beside taken cell < count - 1
rank_small count taken cell a b apart = grind (arith, nat_tests)

pub rank_two_small : (count taken other cell : ℕ) → taken < count → other < count → cell < count → other ≢ taken → cell ≢ taken → cell ≢ other → rank_beside_two taken other cell < count - 2
rank_two_small count taken other cell a b c d e f = grind (arith, nat_tests)

pub rank_once : (taken cell other : ℕ) → cell ≢ taken → other ≢ taken → rank_beside taken cell ≡ rank_beside taken other → cell ≡ other
rank_once taken cell other a b e = grind (arith, nat_tests)

pub rank_two_once : (taken second cell other : ℕ) → second ≢ taken → cell ≢ taken → cell ≢ second → other ≢ taken → other ≢ second → rank_beside_two taken second cell ≡ rank_beside_two taken second other → cell ≡ other
rank_two_once taken second cell other a b c d e f = grind (arith, nat_tests)

-- ---- two digits

pub digits_once : (w q r q' r' : ℕ) → r < w → r' < w → q * w + r ≡ q' * w + r' → (q ≡ q') × (r ≡ r')
digits_once w q r q' r' less less' e =
    (sym (div-mul-add q w r less) ∙ ap (λ n. n / w) e ∙ div-mul-add q' w r' less', sym (mod-mul-add q w r less) ∙ ap (λ n. n % w) e ∙ mod-mul-add q' w r' less')

pub digits_below : (w h q r : ℕ) → q < h → r < w → q * w + r < h * w
digits_below w h q r a b = let up : q * w + r < w * h = mul-add-lt q w r h a b in subst (λ n. q * w + r < n) (mul_comm w h) up

-- ---- numbers of placings

-- the cells that a number tells of are the same
abbrev pub Agree : Projection → (one two : Placing) → Type 0
Agree (Squares side columns) one two = Unit {0}
Agree Blank one two = one.blank ≡ two.blank
Agree BlankAndOne one two = (one.blank ≡ two.blank) × (one.first ≡ two.first)
Agree BlankAndTwo one two = (one.blank ≡ two.blank) × (one.first ≡ two.first) × (one.second ≡ two.second)
Agree (Atoms atoms) one two = Unit {0}

-- the projection is one of boards
abbrev pub IsOfBoards : Projection → Type 0
IsOfBoards (Squares side columns) = ⊥
IsOfBoards Blank = Unit {0}
IsOfBoards BlankAndOne = Unit {0}
IsOfBoards BlankAndTwo = Unit {0}
IsOfBoards (Atoms atoms) = ⊥

-- the blank and the tile 1 from their number
pair_once : (count : ℕ) (one two : Placing) → IsPlacing count one → IsPlacing count two
    → one.blank * (count - 1) + rank_beside one.blank one.first ≡ two.blank * (count - 1) + rank_beside two.blank two.first → (one.blank ≡ two.blank) × (one.first ≡ two.first)
pair_once count one two p q e =
    let digits = digits_once (count - 1) one.blank (rank_beside one.blank one.first) two.blank (rank_beside two.blank two.first) (rank_small count one.blank one.first p.blank p.first p.one)
    (rank_small count two.blank two.first q.blank q.first q.one) e in
    let ranks : rank_beside one.blank one.first ≡ rank_beside one.blank two.first = digits.1 ∙ ap (λ n. rank_beside n two.first) (sym digits.0) in
    (digits.0, rank_once one.blank one.first two.first p.one (subst (λ n. two.first ≢ n) (sym digits.0) q.one) ranks)

pub number_once : (count : ℕ) (projection : Projection) (one two : Placing) → IsPlacing count one → IsPlacing count two → placing_number count projection one ≡ placing_number count projection two
    → Agree projection one two
number_once count (Squares side columns) one two p q e = tt
number_once count Blank one two p q e = e
number_once count (Atoms atoms) one two p q e = tt
number_once count BlankAndOne one two p q e = pair_once count one two p q e
number_once count BlankAndTwo one two p q e =
    let digits = digits_once (count - 2) (one.blank * (count - 1) + rank_beside one.blank one.first) (rank_beside_two one.blank one.first one.second)
    (two.blank * (count - 1) + rank_beside two.blank two.first) (rank_beside_two two.blank two.first two.second)
    (rank_two_small count one.blank one.first one.second p.blank p.first p.second p.one p.two p.three)
    (rank_two_small count two.blank two.first two.second q.blank q.first q.second q.one q.two q.three) e in
    let pair : (one.blank ≡ two.blank) × (one.first ≡ two.first) = pair_once count one two p q digits.0 in
    let ranks : rank_beside_two one.blank one.first one.second ≡ rank_beside_two one.blank one.first two.second =
    digits.1 ∙ ap (λ n. rank_beside_two n two.first two.second) (sym pair.0) ∙ ap (λ n. rank_beside_two one.blank n two.second) (sym pair.1) in (
      pair.0,
      pair.1,
      rank_two_once one.blank one.first one.second two.second p.one p.two p.three (subst (λ n. two.second ≢ n) (sym pair.0) q.two) (subst (λ n. two.second ≢ n) (sym pair.1) q.three) ranks,
    )

-- placings that agree still do after the same move
pub moves_agree : (count : ℕ) (projection : Projection) (one two : Placing) (cell : ℕ) → Agree projection one two
    → placing_number count projection (placing_after one cell) ≡ placing_number count projection (placing_after two cell)
moves_agree count (Squares side columns) one two cell a = refl
moves_agree count Blank one two cell a = refl
moves_agree count (Atoms atoms) one two cell a = refl
moves_agree count BlankAndOne one two cell a =
    ap (λ n. cell * (count - 1) + rank_beside cell (tile_after n cell one.first)) a.0 ∙ ap (λ n. cell * (count - 1) + rank_beside cell (tile_after two.blank cell n)) a.1
moves_agree count BlankAndTwo one two cell a =
    ap (λ n. (cell * (count - 1) + rank_beside cell (tile_after n cell one.first)) * (count - 2) + rank_beside_two cell (tile_after n cell one.first) (tile_after n cell one.second)) a.0
    ∙ ap (λ n. (cell * (count - 1) + rank_beside cell (tile_after two.blank cell n)) * (count - 2) + rank_beside_two cell (tile_after two.blank cell n) (tile_after two.blank cell one.second)) a.1
    ∙ ap (λ n. (cell * (count - 1) + rank_beside cell (tile_after two.blank cell two.first)) * (count - 2) + rank_beside_two cell (tile_after two.blank cell two.first) (tile_after two.blank cell n)) a.2

-- placings that agree have the blank in one cell
pub blanks_agree : (projection : Projection) (one two : Placing) → IsOfBoards projection → Agree projection one two → one.blank ≡ two.blank
blanks_agree (Squares side columns) one two tiles a = absurd tiles
blanks_agree (Atoms atoms) one two tiles a = absurd tiles
blanks_agree Blank one two tiles a = a
blanks_agree BlankAndOne one two tiles a = a.0
blanks_agree BlankAndTwo one two tiles a = a.0

pub number_small : (count : ℕ) (projection : Projection) (placing : Placing) → IsPlacing count placing → IsOfBoards projection
    → placing_number count projection placing < placing_count count projection
number_small count (Squares side columns) placing p tiles = absurd tiles
number_small count (Atoms atoms) placing p tiles = absurd tiles
number_small count Blank placing p tiles = p.blank
number_small count BlankAndOne placing p tiles =
    digits_below (count - 1) count placing.blank (rank_beside placing.blank placing.first) p.blank (rank_small count placing.blank placing.first p.blank p.first p.one)
number_small count BlankAndTwo placing p tiles =
    digits_below (count - 2) (count * (count - 1)) (placing.blank * (count - 1) + rank_beside placing.blank placing.first) (rank_beside_two placing.blank placing.first placing.second)
    (digits_below (count - 1) count placing.blank (rank_beside placing.blank placing.first) p.blank (rank_small count placing.blank placing.first p.blank p.first p.one))
    (rank_two_small count placing.blank placing.first placing.second p.blank p.first p.second p.one p.two p.three)
