-- Worked rows of the definitions.
use Rattle.std.proofs.Common.{◌≡◌, ◌≢◌, ℕ, zero, suc, ◌*◌, ◌<◌, ◌≤◌, false, IsTrue, List, [], ◌∷◌, None, All, nat_lt, refl, sym, subst, arith, inl, true≢false}
use Rattle.std.specs.Int.{div_ceil}
use Rattle.std.specs.List.{AllByRecursion}
use Rattle.std.proofs.lemmas.Grind.{div_ceil_times}
use Rattle.std.proofs.Math.Nat.{mul-le-mul_left}
use Rattle.std.proofs.lemmas.List.Elements.{All-from_recursion}
use Rattle.pb_model.proofs.Callers.{and_true, below}
use Rattle.pb_task.specs.declared.parts.GridParts.{GridParts}
use Rattle.pb_task.specs.declared.parts.GroundAction.{GroundAction}
use Rattle.pb_task.specs.declared.grounding.Grounding.TheVariants as groundings
use Rattle.pb_task.specs.declared.parts.StripsParts.{StripsParts}
use Rattle.pb_task.specs.Strips.{strips_step}
use Rattle.pb_abstract.specs.declared.projection.Projection.TheVariants.{Blank, BlankAndOne, BlankAndTwo}
use Rattle.pb_abstract.specs.Squares.{IsLeastSide}
use Rattle.pb_abstract.specs.Tracked.{changers, is_changed, comes_before, AreTracked, tracked_set, tracked_task, IsTrackedEdge}
use Rattle.pb_abstract.specs.Placings.{placing_count, placing_number, finest_of}

-- ---- boards

-- of 2 by 2 cells: 24 blocks where 256 are wished for, and 12 where 16 are
two_by_two : placing_count 4 (finest_of 4 256) ≡ 24
two_by_two = refl

two_by_two_few : placing_count 4 (finest_of 4 16) ≡ 12
two_by_two_few = refl

-- of 3 by 3 cells: 72, 9 and 504
three_by_three : placing_count 9 (finest_of 9 256) ≡ 72
three_by_three = refl

three_by_three_few : finest_of 9 16 ≡ Blank
three_by_three_few = refl

three_by_three_many : placing_count 9 (finest_of 9 4096) ≡ 504
three_by_three_many = refl

-- of 4 by 4 cells: 16, 240 and 3,360
four_by_four_few : placing_count 16 (finest_of 16 239) ≡ 16
four_by_four_few = refl

four_by_four : placing_count 16 (finest_of 16 256) ≡ 240
four_by_four = refl

four_by_four_many : placing_count 16 (finest_of 16 4096) ≡ 3360
four_by_four_many = refl

-- the blank in the last of 9 cells and the tiles 1 and 2 in the first and the third
last_cell : placing_number 9 BlankAndTwo (record { blank = 8; first = 0; second = 2 }) ≡ 449
last_cell = refl

last_pair : placing_number 9 BlankAndOne (record { blank = 8; first = 0; second = 2 }) ≡ 64
last_pair = refl

-- the greatest number of each board's blocks
greatest : placing_number 16 BlankAndTwo (record { blank = 15; first = 14; second = 13 }) ≡ 3359
greatest = refl

-- ---- maps

-- a map of 3 by 3 cells has a block for each cell
each_cell : (grid : GridParts) → grid.width ≡ 3 → grid.height ≡ 3 → IsLeastSide grid 16 1
each_cell grid w h = record {
  positive = omega arith;
  enough = subst (λ n. div_ceil n 1 * div_ceil grid.height 1 ≤ 16) (sym w) (subst (λ n. div_ceil 3 1 * div_ceil n 1 ≤ 16) (sym h) (omega arith));
  least = λ other some less. absurd (omega arith);
}

-- a map of 2,048 by 2,048 cells has squares of 32 by 32 where 4,096 blocks are wished for
many_parts : (side : ℕ) → 1 ≤ side → side < 32 → 66 ≤ div_ceil 2048 side
many_parts side some less =
    let all : 2048 ≤ div_ceil 2048 side * side = (div_ceil_times 2048 side (omega arith)).0 in
    let up : div_ceil 2048 side * side ≤ div_ceil 2048 side * 31 = mul-le-mul_left {m = side} {n = 31} (div_ceil 2048 side) (omega arith) in
    few (div_ceil 2048 side) (omega (arith, all, up))
  where
    few : (parts : ℕ) → 2048 ≤ parts * 31 → 66 ≤ parts
    few parts e = omega arith

many_squares : (parts : ℕ) → 66 ≤ parts → 4096 < parts * parts
many_squares parts e = grind arith

large_map : (grid : GridParts) → grid.width ≡ 2048 → grid.height ≡ 2048 → IsLeastSide grid 4096 32
large_map grid w h = record {
  positive = omega arith;
  enough = subst (λ n. div_ceil n 32 * div_ceil grid.height 32 ≤ 4096) (sym w) (subst (λ n. div_ceil 2048 32 * div_ceil n 32 ≤ 4096) (sym h) (omega arith));
  least = λ other some less.
      subst (λ n. 4096 < div_ceil n other * div_ceil grid.height other) (sym w)
      (subst (λ n. 4096 < div_ceil 2048 other * div_ceil n other) (sym h) (many_squares (div_ceil 2048 other) (many_parts other some less)));
}

-- ---- STRIPS

-- an action over six atoms, by the bits of those that it needs, adds and deletes
abbrev act : (needs adds deletes : ℕ) → GroundAction
act needs adds deletes = record { name = []; needs = needs; adds = adds; deletes = deletes; cost = 1 }

-- none of the actions changes atom 0, three change atom 1, two each of the atoms 2, 3 and 4, and one atom 5
abbrev six : StripsParts
six = record {
  atoms = 6;
  actions = act 2 4 2 ∷ (act 4 2 4 ∷ (act 5 8 0 ∷ (act 8 16 8 ∷ (act 0 32 16 ∷ (act 32 2 0 ∷ [])))));
  start = 3;
  goal = 32;
  never = false;
  grounding = groundings.All;
}

never_changed : changers 0 six.actions ≡ 0
never_changed = refl

often_changed : changers 1 six.actions ≡ 3
often_changed = refl

changed_once : changers 5 six.actions ≡ 1
changed_once = refl

abbrev four_tracked : List ℕ
four_tracked = 5 ∷ (2 ∷ (3 ∷ (4 ∷ [])))

-- the atoms 1 and 3 as a block, and the atoms 0, 2 and 5
third_alone : tracked_set four_tracked 10 ≡ 4
third_alone = refl

first_and_second : tracked_set four_tracked 37 ≡ 3
first_and_second = refl

-- the action that needs and deletes atom 3, and adds atom 4, leads from the one's block to the other's
an_edge : IsTrackedEdge six four_tracked 4 8
an_edge = record { action = 3; cost = 1; steps = refl }

-- the action that needs atom 3 is not applicable where that doesn't hold
no_step : strips_step (tracked_task four_tracked six) 2 3 ≡ None
no_step = refl

-- where 16 blocks are wished for, these are the tracked atoms
tracked : AreTracked six 16 four_tracked
tracked = record {
  changed = All-from_recursion (λ atom. IsTrue (is_changed six atom)) four_tracked (refl, (refl, (refl, (refl, tt))));
  order = (all 5 (2 ∷ (3 ∷ (4 ∷ []))) (refl, (refl, (refl, tt))), (all 2 (3 ∷ (4 ∷ [])) (refl, (refl, tt)), (all 3 (4 ∷ []) (refl, tt), (all 4 [] tt, tt))));
  first = before;
  few = omega arith;
  most = inl (omega arith);
} where
  all : (atom : ℕ) (atoms : List ℕ) → AllByRecursion (λ other. IsTrue (comes_before six atom other)) atoms → All (λ other. IsTrue (comes_before six atom other)) atoms
  all atom atoms each = All-from_recursion (λ other. IsTrue (comes_before six atom other)) atoms each

  before : (other : ℕ) → IsTrue (is_changed six other) → All (λ atom. atom ≢ other) four_tracked → All (λ atom. IsTrue (comes_before six atom other)) four_tracked
  before zero changed apart = absurd (true≢false (sym changed))
  before (suc zero) changed apart = All-from_recursion (λ atom. IsTrue (comes_before six atom 1)) four_tracked (refl, (refl, (refl, (refl, tt))))
  before (suc (suc zero)) changed apart = absurd (apart 1 0 (omega arith) refl)
  before (suc (suc (suc zero))) changed apart = absurd (apart 2 0 (omega arith) refl)
  before (suc (suc (suc (suc zero)))) changed apart = absurd (apart 3 0 (omega arith) refl)
  before (suc (suc (suc (suc (suc zero))))) changed apart = absurd (apart 0 0 (omega arith) refl)
  before (suc (suc (suc (suc (suc (suc more)))))) changed apart =
      let other : ℕ = suc (suc (suc (suc (suc (suc more))))) in
      let known : other < 6 = below other 6 (and_true (nat_lt other 6) (nat_lt 0 (changers other six.actions)) changed).0 in
      absurd (omega arith)
