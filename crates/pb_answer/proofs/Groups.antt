-- Whatever plan is read off a report of a plan is the one that was reported.
use Rattle.std.proofs.Common.{◌≡◌, ◌≢◌, ℕ, zero, suc, ◌^◌, ◌<◌, ◌==◌, false, List, [], ◌∷◌, All, Option, None, Some, Result, Ok, Err, IfOk, length, get_or, map, refl, sym, ap, ◌∙◌, subst, arith}
use Rattle.std.proofs.lemmas.Bool.{eq-eqb}
use Rattle.std.proofs.lemmas.List.Elements.{All-nil, All-cons}
use Rattle.std.proofs.lemmas.List.{length-map}
use Rattle.std.specs.List.{AllByRecursion}
use Rattle.pb_model.specs.Space.{Space, IsProper}
use Rattle.pb_model.specs.Plan.{Plan, IsPlan, NoneCheaper}
use Rattle.pb_task.specs.declared.parts.TaskParts.{TaskParts}
use Rattle.pb_task.specs.declared.parts.TaskParts.TheVariants.{Grid, Tiles}
use Rattle.pb_task.specs.Grid.{direction}
use Rattle.pb_task.specs.declared.parts.GridParts.{GridParts}
use Rattle.pb_task.specs.declared.parts.TilesParts.{TilesParts}
use Rattle.pb_grid.specs.declared.error.GridError.{GridError}
use Rattle.pb_grid.specs.Reading.{grid_reading, task_of}
use Rattle.pb_tiles.specs.declared.error.TilesError.{TilesError}
use Rattle.pb_tiles.specs.Reading.{tiles_reading}
use Rattle.pb_task.specs.Parts.{space_of, action_name, IsTask, greatest_cost}
use Rattle.pb_model.proofs.Callers.{not_both, by_cases, equal}
use Rattle.pb_estimate.specs.Choices.{Choice}
use Rattle.pb_strips.specs.Naming.{AreTellingNames}
use Rattle.pb_task.proofs.Callers.{tasks_are_proper}
use Rattle.pb_report.specs.Texts.{plan_text, input_text, tiles_text}
use Rattle.pb_answer.specs.Loaded.{refused_with, grid_told, grid_task, tiles_told, tiles_task}
use Rattle.pb_answer.specs.Named.{NamesTell}
use Rattle.pb_answer.specs.Tasks.{GivesTask}
use Rattle.pb_answer.specs.declared.input.NoTask.{NoTask}
use Rattle.pb_command.specs.declared.command.InputOptions.{InputOptions}
use Rattle.pb_command.specs.Meaning.{SolveMeaning}
use Rattle.pb_answer.specs.Searches.{weight_asked}
use Rattle.pb_answer.specs.Outputs.{Output}
use Rattle.pb_answer.specs.Claims.{Certifies, Solves, PrintsLeastCost, SavesPlan}
use Rattle.pb_cert.proofs.Callers.{walk_actions, walk_length}
use Rattle.pb_answer.proofs.Reports.{IsFree, AreFree, report_tells_cost, report_tells_steps}

-- ---- the names of actions

names_differ : (a b : ℕ) → a < 4 → b < 4 → direction a ≡ direction b → a ≡ b
names_differ zero zero h k e = refl
names_differ zero (suc zero) h k e = absurd (let d : ◌≡◌ {A = ℕ} 117 100 = ap (λ t. get_or t 0 0) e in omega (arith, d))
names_differ zero (suc (suc zero)) h k e = absurd (let d : ◌≡◌ {A = ℕ} 117 108 = ap (λ t. get_or t 0 0) e in omega (arith, d))
names_differ zero (suc (suc (suc more))) h k e = absurd (let d : ◌≡◌ {A = ℕ} 117 114 = ap (λ t. get_or t 0 0) e in omega (arith, d))
names_differ (suc zero) zero h k e = absurd (let d : ◌≡◌ {A = ℕ} 100 117 = ap (λ t. get_or t 0 0) e in omega (arith, d))
names_differ (suc zero) (suc zero) h k e = refl
names_differ (suc zero) (suc (suc zero)) h k e = absurd (let d : ◌≡◌ {A = ℕ} 100 108 = ap (λ t. get_or t 0 0) e in omega (arith, d))
names_differ (suc zero) (suc (suc (suc more))) h k e = absurd (let d : ◌≡◌ {A = ℕ} 100 114 = ap (λ t. get_or t 0 0) e in omega (arith, d))
names_differ (suc (suc zero)) zero h k e = absurd (let d : ◌≡◌ {A = ℕ} 108 117 = ap (λ t. get_or t 0 0) e in omega (arith, d))
names_differ (suc (suc zero)) (suc zero) h k e = absurd (let d : ◌≡◌ {A = ℕ} 108 100 = ap (λ t. get_or t 0 0) e in omega (arith, d))
names_differ (suc (suc zero)) (suc (suc zero)) h k e = refl
names_differ (suc (suc zero)) (suc (suc (suc more))) h k e = absurd (let d : ◌≡◌ {A = ℕ} 108 114 = ap (λ t. get_or t 0 0) e in omega (arith, d))
names_differ (suc (suc (suc a))) zero h k e = absurd (let d : ◌≡◌ {A = ℕ} 114 117 = ap (λ t. get_or t 0 0) e in omega (arith, d))
names_differ (suc (suc (suc a))) (suc zero) h k e = absurd (let d : ◌≡◌ {A = ℕ} 114 100 = ap (λ t. get_or t 0 0) e in omega (arith, d))
names_differ (suc (suc (suc a))) (suc (suc zero)) h k e = absurd (let d : ◌≡◌ {A = ℕ} 114 108 = ap (λ t. get_or t 0 0) e in omega (arith, d))
names_differ (suc (suc (suc a))) (suc (suc (suc b))) h k e = omega arith

name_free : (action : ℕ) → IsFree 10 (direction action)
name_free zero = (refl, (refl, tt))
name_free (suc zero) = (refl, (refl, (refl, (refl, tt))))
name_free (suc (suc zero)) = (refl, (refl, (refl, (refl, tt))))
name_free (suc (suc (suc more))) = (refl, (refl, (refl, (refl, (refl, tt)))))

-- the four directions tell their actions apart
directions_tell : AreTellingNames 4 direction
directions_tell = record { different = names_differ; lines = no_feed }
  where
    all : (text : List ℕ) → IsFree 10 text → All (λ c. c ≢ 10) text
    all [] h = All-nil (λ c. c ≢ 10)
    all (c ∷ cs) h = All-cons (λ c. c ≢ 10) c cs (λ e. not_both (c == 10) (eq-eqb c 10 e) h.0) (all cs h.1)

    no_feed : (action : ℕ) → All (λ c. c ≢ 10) (direction action)
    no_feed action = all (direction action) (name_free action)

-- what is refused is no task
refused_is_no_task : (report : Option (List ℕ)) (task : TaskParts) → refused_with report ≡ Ok task → NamesTell task
refused_is_no_task None task e = cc
refused_is_no_task (Some text) task e = cc

-- where the texts of a map and a scenario, or of a board, spell a task, its actions are named by their directions
pub grid_names : (map_text scenario_text : Option (List ℕ)) (options : InputOptions) (task : TaskParts) → grid_task map_text scenario_text options ≡ Ok task → NamesTell task
grid_names None scenario_text options task e = cc
grid_names (Some map_text) None options task e = cc
grid_names (Some map_text) (Some scenario_text) options task e = at (grid_reading map_text scenario_text options.row options.swamp) e
  where
    at : (reading : Result GridParts GridError) → grid_told (task_of reading) ≡ Ok task → NamesTell task
    at (Ok grid) f =
        let is : Grid grid ≡ task = cc in
        subst NamesTell is directions_tell
    at (Err error) f = refused_is_no_task (input_text error) task f

pub tiles_names : (text : Option (List ℕ)) (task : TaskParts) → tiles_task text ≡ Ok task → NamesTell task
tiles_names None task e = cc
tiles_names (Some text) task e = at (tiles_reading text) e
  where
    at : (reading : Result TilesParts TilesError) → tiles_told reading ≡ Ok task → NamesTell task
    at (Ok tiles) f =
        let is : Tiles tiles ≡ task = cc in
        subst NamesTell is directions_tell
    at (Err error) f = refused_is_no_task (tiles_text error) task f

-- ---- lists of names

free_of : (text : List ℕ) → All (λ c. c ≢ 10) text → IsFree 10 text
free_of [] h = tt
free_of (c ∷ cs) h = (other c (h 0 c (omega arith)), free_of cs (λ k d less. h (suc k) d (omega arith)))
  where
    other : (n : ℕ) → n ≢ 10 → (n == 10) ≡ false
    other n apart = by_cases (n == 10) (λ e. absurd (apart (equal n 10 e))) (λ e. e)

names_free : (parts : TaskParts) → NamesTell parts → (actions : List ℕ) → AreFree 10 (map (action_name parts) actions)
names_free parts names [] = tt
names_free parts names (action ∷ actions) = (free_of (action_name parts action) (names.lines action), names_free parts names actions)

abbrev pub AreActions : Space → List ℕ → Type 0
AreActions space actions = AllByRecursion (λ action. action < space.actions) actions

same_actions : (parts : TaskParts) → NamesTell parts → (xs ys : List ℕ) → AreActions (space_of parts) xs → AreActions (space_of parts) ys
    → map (action_name parts) xs ≡ map (action_name parts) ys → xs ≡ ys
same_actions parts names [] [] h k e = refl
same_actions parts names [] (y ∷ ys) h k e = let none : ◌≡◌ {A = List (List ℕ)} [] (action_name parts y ∷ map (action_name parts) ys) = e in cc
same_actions parts names (x ∷ xs) [] h k e = let none : ◌≡◌ {A = List (List ℕ)} (action_name parts x ∷ map (action_name parts) xs) [] = e in cc
same_actions parts names (x ∷ xs) (y ∷ ys) h k e =
    let all : action_name parts x ∷ map (action_name parts) xs ≡ action_name parts y ∷ map (action_name parts) ys = e in
    let name : action_name parts x ≡ action_name parts y = cc in
    let more : map (action_name parts) xs ≡ map (action_name parts) ys = cc in
    let first = names.different x y h.0 k.0 name in
    let rest = same_actions parts names xs ys h.1 k.1 more in
    λ i. first i ∷ rest i

-- ---- the plan that a report tells

module _ (parts : TaskParts) (lawful : IsTask parts) (names : NamesTell parts) (report : List ℕ)
    (saves : List Output → Type 0) (solve : SolveMeaning) (choice : Choice)
    (solves : Solves (λ text. report ≡ text) saves solve choice parts) where
  proper : IsProper (space_of parts) greatest_cost
  proper = (tasks_are_proper parts lawful).0

  few : (plan : Plan) → IsPlan (space_of parts) plan → plan.cost < 2 ^ 64 → length (map (action_name parts) plan.actions) < 2 ^ 64
  few plan is small =
      let short = walk_length (space_of parts) greatest_cost proper plan.actions (space_of parts).start plan.cost is.0 is.1 in
      omega (arith, length-map plan.actions (action_name parts), short, small)

  pub prints_least_cost : PrintsLeastCost (λ text. report ≡ text) parts (weight_asked solve)
  prints_least_cost steps cost bound small says =
      let same = report_tells_cost (map (action_name parts) solves.0.actions) steps solves.0.cost solves.1 cost bound solves.7 small (sym solves.2 ∙ says) in
      subst (λ c. NoneCheaper (space_of parts) (weight_asked solve) c) same solves.5

  same_plan : (plan : Plan) (bound : ℕ) → IsPlan (space_of parts) plan → plan.cost < 2 ^ 64 → report ≡ plan_text parts plan bound → solves.0 ≡ plan
  same_plan plan bound is small says =
      let known = solves.0 in
      let cost = report_tells_cost (map (action_name parts) known.actions) (map (action_name parts) plan.actions) known.cost solves.1 plan.cost bound solves.7 small (sym solves.2 ∙ says) in
      let steps = report_tells_steps (map (action_name parts) known.actions) (map (action_name parts) plan.actions) known.cost solves.1 plan.cost bound solves.7 small
      (few known solves.3 solves.7) (few plan is small) (names_free parts names known.actions) (names_free parts names plan.actions) (sym solves.2 ∙ says) in
      let actions = same_actions parts names known.actions plan.actions
      (walk_actions (space_of parts) greatest_cost proper known.actions (space_of parts).start known.cost solves.3.0 solves.3.1)
      (walk_actions (space_of parts) greatest_cost proper plan.actions (space_of parts).start plan.cost is.0 is.1) steps in
      λ i. record { actions = actions i; cost = cost i }

  pub saves_plan : SavesPlan (λ text. report ≡ text) saves solve choice parts
  saves_plan plan bound is small says =
      subst (λ (p : Plan). Certifies saves solve choice parts (Some p)) (same_plan plan bound is small says)
      solves.6

-- where a task is given only with telling names, what is returned has them
pub given_names : (cause : Type 0) (result : Result TaskParts NoTask) (given : Result TaskParts (List ℕ)) → GivesTask cause result given → ((task : TaskParts) → given ≡ Ok task → NamesTell task) → IfOk result NamesTell
given_names cause (Ok task) given is tell = tell task is
given_names cause (Err error) given is tell = tt
