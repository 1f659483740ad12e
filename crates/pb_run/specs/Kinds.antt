-- The promises of `solve` without `--falling` for each kind of task in its own words, for a reader
-- who wants to know nothing of other kinds, of certificates or of the search. A further kind is one
-- definition more.
use Rattle.std.specs.Prelude.{◌≡◌, ℕ, ⊤, List, map, slice_get}
use Rattle.pb_model.specs.Weight.{Weight}
use Rattle.pb_model.specs.Space.{Space}
use Rattle.pb_model.specs.Plan.{Plan, IsPlan, HasNoPlan, NoneCheaper, IsBound}
use Rattle.pb_model.specs.Texts.{plan_report}
use Rattle.pb_task.specs.Grid.{grid_space, direction}
use Rattle.pb_task.specs.Tiles.{tiles_space}
use Rattle.pb_command.specs.Values.{InputNames, Grid, Tiles, Strips}
use Rattle.pb_command.specs.Meaning.{SolveMeaning}
use Rattle.pb_answer.specs.Answer.{Says}
use Rattle.pb_answer.specs.Spelled.{OfGrid, OfTiles}
use Rattle.pb_answer.specs.Named.{OfTrees, PrintsNamedPlan, HasNoNamedPlan, AcceptsNamed}
use Rattle.pb_run.specs.Outcome.{Outcome, IfSolve, IfCheck}

-- the weight num / den of the words
abbrev pub weight_of_words : SolveMeaning → Weight
weight_of_words solve = record { num = solve.settings.num; den = solve.settings.den }

-- A plan of the space is printed: its cost, the number of its steps, a name for each step, and the
-- bound. No plan of the space costs less than this cost divided by the weight.
abbrev pub PrintsCheapest : (report : List ℕ) → Space → (name : ℕ → List ℕ) → Weight → Type 0
PrintsCheapest report space name weight =
    (plan : Plan) × (bound : ℕ)
    × (report ≡ plan_report (map name plan.actions) plan.cost bound)
    × IsPlan space plan × IsBound weight plan.cost bound × NoneCheaper space weight plan.cost

-- ---- maps

abbrev pub IfMap : InputNames → (P : Type 0) → Type 0
IfMap (Grid names) P = P
IfMap (Tiles board) P = ⊤
IfMap (Strips names) P = ⊤

-- What `solve` promises of a map. A printed plan is a plan of the grid that the map and the
-- scenario spell, and none is cheaper; if `none` is printed, the grid has none.
pub record MapHolds (solve : SolveMeaning) (it : Outcome) : Type 0 where
  pub plan : it.said.status ≡ 0
      → OfGrid (slice_get it.texts 0) (slice_get it.texts 1) solve.options
      (λ grid. PrintsCheapest it.said.report (grid_space grid) direction (weight_of_words solve))
  pub none : it.said.status ≡ 1
      → OfGrid (slice_get it.texts 0) (slice_get it.texts 1) solve.options
      (λ grid. HasNoPlan (grid_space grid))

abbrev pub MapsHold : Outcome → Type 0
MapsHold it = IfSolve it.asked (λ solve. IfMap solve.input (MapHolds solve it))

-- ---- boards

abbrev pub IfBoard : InputNames → (P : Type 0) → Type 0
IfBoard (Grid names) P = ⊤
IfBoard (Tiles board) P = P
IfBoard (Strips names) P = ⊤

-- What `solve` promises of a board: the same of the sliding tiles that the text spells.
pub record BoardHolds (solve : SolveMeaning) (it : Outcome) : Type 0 where
  pub plan : it.said.status ≡ 0 → OfTiles (slice_get it.texts 0)
      (λ tiles. PrintsCheapest it.said.report (tiles_space tiles) direction (weight_of_words solve))
  pub none : it.said.status ≡ 1
      → OfTiles (slice_get it.texts 0) (λ tiles. HasNoPlan (tiles_space tiles))

abbrev pub BoardsHold : Outcome → Type 0
BoardsHold it = IfSolve it.asked (λ solve. IfBoard solve.input (BoardHolds solve it))

-- ---- PDDL

-- What `solve` and `check` promise of a domain and a problem, by names: a state is a set of facts,
-- and an action is one of the domain's with objects.
-- - `plan`: the printed actions are a plan with its cost and bound, and none costs less than this
--   cost divided by the weight.
-- - `none`: there is no plan.
-- - `accepted`: what an accepted certificate claims is true.
pub record NamedHolds (it : Outcome) : Type 0 where
  pub plan : IfSolve it.asked (λ solve. it.said.status ≡ 0 → OfTrees solve.input 0 it.texts
      (PrintsNamedPlan (Says it.said) (weight_of_words solve)))
  pub none : IfSolve it.asked (λ solve. it.said.status ≡ 1
      → OfTrees solve.input 0 it.texts HasNoNamedPlan)
  pub accepted : IfCheck it.asked (λ check. it.said.status ≡ 0
      → OfTrees check.input 1 it.texts (AcceptsNamed (Says it.said)))
