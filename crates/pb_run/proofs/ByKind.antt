-- The promises for each kind of task, from those of the commands.
use Rattle.std.proofs.Common.{◌≡◌, slice_get, Ok}
use Rattle.pb_model.specs.Plan.{HasNoPlan}
use Rattle.pb_task.specs.declared.parts.TaskParts.{TaskParts}
use Rattle.pb_task.specs.declared.parts.TaskParts.TheVariants as kinds
use Rattle.pb_task.specs.Parts.{space_of, action_name}
use Rattle.pb_grid.specs.Laws.{ReadAsSpelled}
use Rattle.pb_tiles.specs.Laws.{ReadingsAreSpelled}
use Rattle.pb_command.specs.declared.command.InputOptions.{InputOptions}
use Rattle.pb_command.specs.Values.{InputNames, Grid, Tiles, Strips}
use Rattle.pb_command.specs.Meaning.{Reading, Refused, Read, Solve, Falling, Check, Journal, Make, SolveMeaning}
use Rattle.pb_estimate.specs.Choices.{Choice}
use Rattle.pb_answer.specs.Answer.{Says, Saves}
use Rattle.pb_answer.specs.Claims.{Solves}
use Rattle.pb_answer.specs.Loaded.{input_task, OfTexts}
use Rattle.pb_answer.specs.Spelled.{OfGrid, OfTiles}
use Rattle.pb_answer.proofs.Callers.{task_read, of_grid, of_tiles, solved_by_names, none_by_names, accepted_by_names}
use Rattle.pb_run.specs.Outcome.{Outcome, IfSolve, IfCheck}
use Rattle.pb_run.specs.Headline.{NoneMeansNone}
use Rattle.pb_run.specs.Commands.{SolveHolds, CheckHolds, SolvesHold, ChecksHold}
use Rattle.pb_run.specs.Kinds.{PrintsCheapest, weight_of_words, IfMap, MapHolds, MapsHold, IfBoard, BoardHolds, BoardsHold, NamedHolds}

module _ (it : Outcome) where
  -- what the texts of this command spell has no plan, at status 1
  abbrev HasNone : SolveMeaning → Type 0
  HasNone solve = it.said.status ≡ 1 → OfTexts solve it.texts (λ choice task. HasNoPlan (space_of task))

  abbrev HasOne : SolveMeaning → Type 0
  HasOne solve = it.said.status ≡ 0 → OfTexts solve it.texts (Solves (Says it.said) (Saves it.said) solve)

  -- a plan of the task is printed, with its cost and bound, and none is cheaper
  abbrev Prints : SolveMeaning → TaskParts → Type 0
  Prints solve task = PrintsCheapest it.said.report (space_of task) (action_name task) (weight_of_words solve)

  plan_there : (solve : SolveMeaning) (task : TaskParts) (choice : Choice) → Solves (Says it.said) (Saves it.said) solve choice task → Prints solve task
  plan_there solve task choice (plan, bound, says, is, is_bound, none, certifies, small) = (plan, bound, says, is, is_bound, none)

  -- what follows for the input from both promises
  both : (P : SolveMeaning → Type 0) → ((solve : SolveMeaning) → HasOne solve → HasNone solve → P solve)
      → (r : Reading) → IfSolve r (λ solve. SolveHolds solve it) → NoneMeansNone (record it { asked = r }) → IfSolve r P
  both P f (Refused fault) one none = tt
  both P f (Read (Solve solve)) one none = f solve one.one_plan (λ e. (none e).1)
  both P f (Read (Falling falling)) one none = tt
  both P f (Read (Check check)) one none = tt
  both P f (Read (Journal journal)) one none = tt
  both P f (Read (Make make)) one none = tt

  -- ---- maps

  -- a promise of the task that the texts spell is one of the grid that they spell
  of_map : ReadAsSpelled → (input : InputNames) (options : InputOptions) (task : TaskParts) (P : TaskParts → Type 0)
      → input_task input options 0 it.texts ≡ Ok task → P task
      → IfMap input (OfGrid (slice_get it.texts 0) (slice_get it.texts 1) options (λ grid. P (kinds.Grid grid)))
  of_map law (Grid names) options task P is holds = of_grid task P holds law (slice_get it.texts 0) (slice_get it.texts 1) options is
  of_map law (Tiles board) options task P is holds = tt
  of_map law (Strips names) options task P is holds = tt

  abbrev OfMap : SolveMeaning → (P : TaskParts → Type 0) → Type 0
  OfMap solve P = OfGrid (slice_get it.texts 0) (slice_get it.texts 1) solve.options (λ grid. P (kinds.Grid grid))

  as_map : ReadAsSpelled → (solve : SolveMeaning) → HasOne solve → HasNone solve → IfMap solve.input (MapHolds solve it)
  as_map law solve one none = go solve.input plan_of none_of
    where
      plan_of : it.said.status ≡ 0 → IfMap solve.input (OfMap solve (Prints solve))
      plan_of zero = let found = one zero in of_map law solve.input solve.options found.0.0 (Prints solve) (task_read solve it.texts found.0 found.1) (plan_there solve found.0.0 found.2.0 found.2.2)

      none_of : it.said.status ≡ 1 → IfMap solve.input (OfMap solve (λ task. HasNoPlan (space_of task)))
      none_of e = let found = none e in of_map law solve.input solve.options found.0.0 (λ task. HasNoPlan (space_of task)) (task_read solve it.texts found.0 found.1) found.2.2

      go : (input : InputNames) → (it.said.status ≡ 0 → IfMap input (OfMap solve (Prints solve))) → (it.said.status ≡ 1 → IfMap input (OfMap solve (λ task. HasNoPlan (space_of task))))
          → IfMap input (MapHolds solve it)
      go (Grid names) plan no_plan = record { plan = plan; none = no_plan }
      go (Tiles board) plan no_plan = tt
      go (Strips names) plan no_plan = tt

  pub maps_hold : ReadAsSpelled → SolvesHold it → NoneMeansNone it → MapsHold it
  maps_hold law = both _ (as_map law) it.asked

  -- ---- boards

  of_board : ReadingsAreSpelled → (input : InputNames) (options : InputOptions) (task : TaskParts) (P : TaskParts → Type 0)
      → input_task input options 0 it.texts ≡ Ok task → P task → IfBoard input (OfTiles (slice_get it.texts 0) (λ tiles. P (kinds.Tiles tiles)))
  of_board law (Grid names) options task P is holds = tt
  of_board law (Tiles board) options task P is holds = of_tiles task P holds law (slice_get it.texts 0) is
  of_board law (Strips names) options task P is holds = tt

  abbrev OfBoard : (P : TaskParts → Type 0) → Type 0
  OfBoard P = OfTiles (slice_get it.texts 0) (λ tiles. P (kinds.Tiles tiles))

  as_board : ReadingsAreSpelled → (solve : SolveMeaning) → HasOne solve → HasNone solve → IfBoard solve.input (BoardHolds solve it)
  as_board law solve one none = go solve.input plan_of none_of
    where
      plan_of : it.said.status ≡ 0 → IfBoard solve.input (OfBoard (Prints solve))
      plan_of zero = let found = one zero in of_board law solve.input solve.options found.0.0 (Prints solve) (task_read solve it.texts found.0 found.1) (plan_there solve found.0.0 found.2.0 found.2.2)

      none_of : it.said.status ≡ 1 → IfBoard solve.input (OfBoard (λ task. HasNoPlan (space_of task)))
      none_of e = let found = none e in of_board law solve.input solve.options found.0.0 (λ task. HasNoPlan (space_of task)) (task_read solve it.texts found.0 found.1) found.2.2

      go : (input : InputNames) → (it.said.status ≡ 0 → IfBoard input (OfBoard (Prints solve))) → (it.said.status ≡ 1 → IfBoard input (OfBoard (λ task. HasNoPlan (space_of task))))
          → IfBoard input (BoardHolds solve it)
      go (Grid names) plan no_plan = tt
      go (Tiles board) plan no_plan = record { plan = plan; none = no_plan }
      go (Strips names) plan no_plan = tt

  pub boards_hold : ReadingsAreSpelled → SolvesHold it → NoneMeansNone it → BoardsHold it
  boards_hold law = both _ (as_board law) it.asked

  -- ---- PDDL

  named : (r : Reading) → IfSolve r (λ solve. SolveHolds solve it) → NoneMeansNone (record it { asked = r }) → IfCheck r (λ check. CheckHolds check it)
      → NamedHolds (record it { asked = r })
  named (Refused fault) one none checks = record { plan = tt; none = tt; accepted = tt }
  named (Read (Solve solve)) one none checks = record {
    plan = λ zero. solved_by_names it.texts (Says it.said) (Saves it.said) solve (one.one_plan zero);
    none = λ e. none_by_names it.texts solve (none e).1;
    accepted = tt;
  }
  named (Read (Falling falling)) one none checks = record { plan = tt; none = tt; accepted = tt }
  named (Read (Check check)) one none checks = record {
    plan = tt;
    none = tt;
    accepted = λ zero. accepted_by_names it.texts (Says it.said) check (checks.accepted zero);
  }
  named (Read (Journal journal)) one none checks = record { plan = tt; none = tt; accepted = tt }
  named (Read (Make make)) one none checks = record { plan = tt; none = tt; accepted = tt }

  pub named_hold : SolvesHold it → NoneMeansNone it → ChecksHold it → NamedHolds it
  named_hold = named it.asked
