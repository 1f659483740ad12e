-- The kind of a task is that of the input that spells it, and its grounding is the one that the words
-- ask for.
use Rattle.std.proofs.Common.{◌≡◌, ℕ, ◌+◌, Option, None, Some, List, slice_get, Result, Ok, Err, refl, subst}
use Rattle.pb_task.specs.declared.kind.Kind.TheVariants as kind
use Rattle.pb_task.specs.Kinds.{kind_of}
use Rattle.pb_task.specs.declared.grounding.Grounding.{Grounding}
use Rattle.pb_task.specs.declared.grounding.Grounding.TheVariants.{All, Reachable}
use Rattle.pb_task.specs.Groundings.{grounding_of}
use Rattle.pb_task.specs.declared.parts.TaskParts.{TaskParts}
use Rattle.pb_task.specs.declared.parts.TaskParts.TheVariants as parts
use Rattle.pb_task.specs.declared.parts.GridParts.{GridParts}
use Rattle.pb_task.specs.declared.parts.TilesParts.{TilesParts}
use Rattle.pb_grid.specs.declared.error.GridError.{GridError}
use Rattle.pb_grid.specs.Reading.{grid_reading, task_of}
use Rattle.pb_tiles.specs.declared.error.TilesError.{TilesError}
use Rattle.pb_tiles.specs.Reading.{tiles_reading}
use Rattle.pb_pddl.specs.declared.tree.Domain.{Domain}
use Rattle.pb_pddl.specs.declared.tree.Problem.{Problem}
use Rattle.pb_pddl.specs.declared.error.SyntaxError.{SyntaxError}
use Rattle.pb_pddl.specs.Readings.{domain_reading, problem_reading}
use Rattle.pb_strips.specs.declared.error.StripsError.{StripsError}
use Rattle.pb_strips.specs.Grounding.{strips_with}
use Rattle.pb_strips.specs.Refusals.{fault_with}
use Rattle.pb_report.specs.Texts.{input_text, tiles_text, syntax_text, strips_text}
use Rattle.pb_command.specs.declared.command.InputOptions.{InputOptions}
use Rattle.pb_command.specs.Values.{InputNames, Grid, Tiles, Strips}
use Rattle.pb_command.specs.Options.{kind_of_input}
use Rattle.pb_answer.specs.Loaded.{refused_with, grid_told, grid_task, tiles_told, tiles_task, strips_told, problem_told, domain_told, strips_task, input_task, GroundingsAreAsAsked}

-- ---- what holds of each task of a kind holds of the one that the texts spell

module _ (task : TaskParts) (P : TaskParts → Type 0) where
  of_refusal : (report : Option (List ℕ)) → refused_with report ≡ Ok task → P task
  of_refusal None e = cc
  of_refusal (Some report) e = cc

  of_grids : ((grid : GridParts) → P (parts.Grid grid))
      → (map_text scenario_text : Option (List ℕ)) (options : InputOptions)
      → grid_task map_text scenario_text options ≡ Ok task → P task
  of_grids each None scenario_text options e = cc
  of_grids each (Some map_text) None options e = cc
  of_grids each (Some map_text) (Some scenario_text) options e =
      read (grid_reading map_text scenario_text options.row options.swamp) e
    where
      read : (result : Result GridParts GridError) → grid_told (task_of result) ≡ Ok task → P task
      read (Ok grid) f = let same : parts.Grid grid ≡ task = cc in subst P same (each grid)
      read (Err error) f = of_refusal (input_text error) f

  of_boards : ((tiles : TilesParts) → P (parts.Tiles tiles)) → (text : Option (List ℕ))
      → tiles_task text ≡ Ok task → P task
  of_boards each None e = cc
  of_boards each (Some text) e = read (tiles_reading text) e
    where
      read : (result : Result TilesParts TilesError) → tiles_told result ≡ Ok task → P task
      read (Ok tiles) f = let same : parts.Tiles tiles ≡ task = cc in subst P same (each tiles)
      read (Err error) f = of_refusal (tiles_text error) f

  of_strips : (grounding : Grounding)
      → ((domain : Domain) (problem : Problem) → P (parts.Strips (strips_with grounding domain problem)))
      → (domain_text problem_text : Option (List ℕ))
      → strips_task grounding domain_text problem_text ≡ Ok task → P task
  of_strips grounding each None problem_text e = cc
  of_strips grounding each (Some domain_text) None e = cc
  of_strips grounding each (Some domain_text) (Some problem_text) e =
      domains (domain_reading domain_text) (problem_reading problem_text) e
    where
      faults : (domain : Domain) (problem : Problem) (fault : Option StripsError)
          → strips_told grounding domain problem fault ≡ Ok task → P task
      faults domain problem None f = subst P (unwrap _ f) (each domain problem)
        where
          unwrap : (made : TaskParts) → ◌≡◌ {A = Result TaskParts (List ℕ)} (Ok made) (Ok task)
              → made ≡ task
          unwrap made g = cc
      faults domain problem (Some error) f = of_refusal (strips_text error) f

      problems : (domain : Domain) (reading : Result Problem SyntaxError)
          → problem_told grounding domain reading ≡ Ok task → P task
      problems domain (Ok problem) f =
          faults domain problem (fault_with grounding domain problem) f
      problems domain (Err error) f = of_refusal (syntax_text 2 error) f

      domains : (reading : Result Domain SyntaxError) (problem : Result Problem SyntaxError)
          → domain_told grounding reading problem ≡ Ok task → P task
      domains (Ok domain) problem f = problems domain problem f
      domains (Err error) problem f = of_refusal (syntax_text 1 error) f

-- ---- the kind

pub input_kind : (task : TaskParts) (input : InputNames) (options : InputOptions) (first : ℕ)
    (texts : List (List ℕ)) → input_task input options first texts ≡ Ok task
    → kind_of task ≡ kind_of_input input
input_kind task (Grid names) options first texts e =
    of_grids task (λ t. kind_of t ≡ kind.Grid) (λ grid. refl) (slice_get texts first) (slice_get texts (first + 1)) options e
input_kind task (Tiles board) options first texts e =
    of_boards task (λ t. kind_of t ≡ kind.Tiles) (λ tiles. refl) (slice_get texts first) e
input_kind task (Strips names) options first texts e =
    of_strips task (λ t. kind_of t ≡ kind.Strips) options.grounding (λ domain problem. refl) (slice_get texts first) (slice_get texts (first + 1)) e

-- ---- the grounding

-- the task of a grounding has it
has_grounding : (grounding : Grounding) (domain : Domain) (problem : Problem)
    → (strips_with grounding domain problem).grounding ≡ grounding
has_grounding All domain problem = refl
has_grounding Reachable domain problem = refl

pub input_grounding : GroundingsAreAsAsked
input_grounding task (Grid names) options first texts e =
    of_grids task (λ t. grounding_of t ≡ All) (λ grid. refl) (slice_get texts first) (slice_get texts (first + 1)) options e
input_grounding task (Tiles board) options first texts e =
    of_boards task (λ t. grounding_of t ≡ All) (λ tiles. refl) (slice_get texts first) e
input_grounding task (Strips names) options first texts e =
    of_strips task (λ t. grounding_of t ≡ options.grounding) options.grounding (has_grounding options.grounding) (slice_get texts first) (slice_get texts (first + 1)) e
