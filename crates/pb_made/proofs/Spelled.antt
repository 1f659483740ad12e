-- Made texts are read as the made task, and never refused.
use Rattle.std.proofs.Common.{◌≡◌, ◌≢◌, ℕ, true, false, List, Option, Some, None, is_some, Result, Ok, Err, refl, sym, ap, subst, ◌∙◌, arith}
use Rattle.pb_task.specs.declared.parts.TaskParts.{TaskParts}
use Rattle.pb_task.specs.declared.parts.TaskParts.TheVariants as parts
use Rattle.pb_task.specs.declared.parts.GridParts.{GridParts}
use Rattle.pb_task.specs.declared.parts.TilesParts.{TilesParts}
use Rattle.pb_grid.specs.declared.error.GridError.{GridError}
use Rattle.pb_grid.specs.declared.error.GridError.TheVariants as grid_errors
use Rattle.pb_grid.specs.Form.{SpellsGrid}
use Rattle.pb_grid.specs.Reading.{grid_reading, task_of}
use Rattle.pb_tiles.specs.declared.error.TilesError.{TilesError}
use Rattle.pb_tiles.specs.declared.error.TilesError.TheVariants as tiles_errors
use Rattle.pb_tiles.specs.Reading.{tiles_reading}
use Rattle.pb_tiles.specs.Spelling.{SpellsTiles}
use Rattle.pb_pddl.specs.declared.tree.Domain.{Domain}
use Rattle.pb_pddl.specs.declared.tree.Problem.{Problem}
use Rattle.pb_pddl.specs.declared.error.SyntaxError.{SyntaxError}
use Rattle.pb_pddl.specs.declared.error.SyntaxError.TheVariants as syntax_errors
use Rattle.pb_pddl.specs.Readings.{domain_reading, problem_reading}
use Rattle.pb_strips.specs.declared.error.StripsError.{StripsError}
use Rattle.pb_strips.specs.declared.error.StripsError.TheVariants as strips_errors
use Rattle.pb_strips.specs.Looks.{LooksValue}
use Rattle.pb_strips.specs.Refusals.{first_fault, Tells, TellsStop}
use Rattle.pb_task.specs.declared.grounding.Grounding.TheVariants.{All}
use Rattle.pb_task.specs.declared.kind.Kind.TheVariants.{Grid, Tiles, Strips}
use Rattle.pb_make.specs.Boards.{tiles_text}
use Rattle.pb_make.specs.Domain.{domain_text}
use Rattle.pb_make.specs.Maps.{map_text, scenario_text}
use Rattle.pb_make.specs.Problems.{problem_text}
use Rattle.pb_make_laws.specs.Made.{made_grid, made_tiles}
use Rattle.pb_make_laws.proofs.Callers.{made_problems_are_tasks, made_boards_are_spelled, made_maps_are_spelled}
use Rattle.pb_made.specs.Made.{IsMadeTask, IsSize}

-- an error that can't be another is memory
grid_memory : (error : GridError) → (error ≢ grid_errors.Memory → ⊥) → error ≡ grid_errors.Memory
grid_memory grid_errors.Memory only = refl
grid_memory error only = absurd (only (λ e. cc))

syntax_memory : (error : SyntaxError) → (error ≢ syntax_errors.Memory → ⊥) → error ≡ syntax_errors.Memory
syntax_memory syntax_errors.Memory only = refl
syntax_memory error only = absurd (only (λ e. cc))

module _ (seed side : ℕ) (size : IsSize Grid side) (map scenario : List ℕ) (map_is : map ≡ map_text seed side) (scenario_is : scenario ≡ scenario_text side) where
  spelled : SpellsGrid map scenario 0 false (made_grid seed side)
  spelled =
      subst (λ (m : List ℕ). SpellsGrid m scenario 0 false (made_grid seed side)) (sym map_is)
      (subst (λ (s : List ℕ). SpellsGrid (map_text seed side) s 0 false (made_grid seed side)) (sym scenario_is) (made_maps_are_spelled seed side size.0 size.1))

  same_grid : (a b : TaskParts) → ◌≡◌ {A = Result TaskParts GridError} (Ok a) (Ok b) → b ≡ a
  same_grid a b e = cc

  pub grid_is_made : (task : TaskParts) → task_of (grid_reading map scenario 0 false) ≡ Ok task
      → ((grid : GridParts) → SpellsGrid map scenario 0 false grid → ◌≡◌ {A = Result TaskParts GridError} (Ok (parts.Grid grid)) (Ok task)) → IsMadeTask Grid seed side task
  grid_is_made task read only = (
    ap (λ (m : List ℕ). task_of (grid_reading m (scenario_text side) 0 false)) (sym map_is) ∙ (ap (λ (s : List ℕ). task_of (grid_reading map s 0 false)) (sym scenario_is) ∙ read),
    made_maps_are_spelled seed side size.0 size.1,
    same_grid (parts.Grid (made_grid seed side)) task (only (made_grid seed side) spelled),
  )

  grid_differs : (task : TaskParts) (error : GridError) → ◌≡◌ {A = Result TaskParts GridError} (Ok task) (Err error) → ⊥
  grid_differs task error e = cc

  pub grid_is_memory : (error : GridError)
      → ((grid : GridParts) → SpellsGrid map scenario 0 false grid → error ≢ grid_errors.Memory → ◌≡◌ {A = Result TaskParts GridError} (Ok (parts.Grid grid)) (Err error)) → error ≡ grid_errors.Memory
  grid_is_memory error only = grid_memory error (λ other. grid_differs (parts.Grid (made_grid seed side)) error (only (made_grid seed side) spelled other))

module _ (seed moves : ℕ) (text : List ℕ) (text_is : text ≡ tiles_text seed moves) where
  board_spelled : SpellsTiles text (made_tiles seed moves)
  board_spelled = subst (λ (t : List ℕ). SpellsTiles t (made_tiles seed moves)) (sym text_is) (made_boards_are_spelled seed moves)

  same_tiles : (a b : TilesParts) → parts.Tiles a ≡ parts.Tiles b → a ≡ b
  same_tiles a b e = cc

  pub tiles_are_made : (task : TaskParts) → (tiles : TilesParts) × (task ≡ parts.Tiles tiles) × (tiles_reading text ≡ Ok tiles) → ((tiles : TilesParts) → SpellsTiles text tiles → task ≡ parts.Tiles tiles)
      → IsMadeTask Tiles seed moves task
  tiles_are_made task (tiles, is, read) only =
      let made = only (made_tiles seed moves) board_spelled in
      let same : tiles ≡ made_tiles seed moves = same_tiles tiles (made_tiles seed moves) (sym is ∙ made) in (
        ap tiles_reading (sym text_is) ∙ (read ∙ ap (λ (t : TilesParts). Ok t) same),
        made_boards_are_spelled seed moves,
        made,
      )

  pub tiles_are_memory : (error : TilesError) → ((tiles : TilesParts) → SpellsTiles text tiles → error ≡ tiles_errors.Memory) → error ≡ tiles_errors.Memory
  tiles_are_memory error only = only (made_tiles seed moves) board_spelled

-- ---- blocks

ok_is_no_error : {X : Type 0} (x : X) (error : SyntaxError) → ◌≡◌ {A = Result X SyntaxError} (Ok x) (Err error) → ⊥
ok_is_no_error x error e = cc

-- a text that is read as something has no other error than memory
pub read_is_memory : {X : Type 0} (read : Result X SyntaxError) (x : X) → read ≡ Ok x → (error : SyntaxError) → (error ≢ syntax_errors.Memory → read ≡ Err error) → error ≡ syntax_errors.Memory
read_is_memory read x is error refused = syntax_memory error (λ other. ok_is_no_error x error (sym is ∙ refused other))

pub domain_is_memory : (text : List ℕ) → text ≡ domain_text → (error : SyntaxError) → (error ≢ syntax_errors.Memory → domain_reading text ≡ Err error) → error ≡ syntax_errors.Memory
domain_is_memory text same error refused =
    let law = made_problems_are_tasks 0 1 (omega arith) (omega arith) in
    read_is_memory (domain_reading text) law.0 (ap domain_reading same ∙ law.2) error refused

pub problem_is_memory : (seed blocks : ℕ) → IsSize Strips blocks → (text : List ℕ) → text ≡ problem_text seed blocks → (error : SyntaxError) → (error ≢ syntax_errors.Memory → problem_reading text ≡ Err error)
    → error ≡ syntax_errors.Memory
problem_is_memory seed blocks size text same error refused =
    let law = made_problems_are_tasks seed blocks size.0 size.1 in
    read_is_memory (problem_reading text) law.1 (ap problem_reading same ∙ law.3) error refused

one_domain : (a b : Domain) → ◌≡◌ {A = Result Domain SyntaxError} (Ok a) (Ok b) → a ≡ b
one_domain a b e = cc

one_problem : (a b : Problem) → ◌≡◌ {A = Result Problem SyntaxError} (Ok a) (Ok b) → a ≡ b
one_problem a b e = cc

no_stop : (since : Option ℕ) → since ≡ None → is_some since ≡ true → ⊥
no_stop None none some = absurd cc
no_stop (Some n) none some = absurd cc

-- no fault is told but memory, if looks have no limit
told_none : (domain : Domain) (problem : Problem) (looks : LooksValue) (error : StripsError) → looks.since ≡ None → Tells None error → TellsStop All domain problem looks error
    → error ≡ strips_errors.Memory
told_none domain problem looks (strips_errors.Refused refusal) none e stop = absurd cc
told_none domain problem looks (strips_errors.TooManyAtoms n) none e stop = absurd cc
told_none domain problem looks strips_errors.TooManyActions none e stop = absurd cc
told_none domain problem looks strips_errors.Stopped none e stop = absurd (no_stop looks.since none stop.0.0)
told_none domain problem looks strips_errors.Memory none e stop = refl

pub blocks_are_memory : (seed blocks : ℕ) → IsSize Strips blocks → (domain : Domain) (problem : Problem) → domain_reading domain_text ≡ Ok domain → problem_reading (problem_text seed blocks) ≡ Ok problem
    → (looks : LooksValue) (error : StripsError) → looks.since ≡ None → Tells (first_fault domain problem) error → TellsStop All domain problem looks error → error ≡ strips_errors.Memory
blocks_are_memory seed blocks size domain problem read_domain read_problem looks error endless told stop =
    let law = made_problems_are_tasks seed blocks size.0 size.1 in
    let same_domain = one_domain law.0 domain (sym law.2 ∙ read_domain) in
    let same_problem = one_problem law.1 problem (sym law.3 ∙ read_problem) in
    let none : first_fault domain problem ≡ None = ap (λ (d : Domain). first_fault d problem) (sym same_domain) ∙ (ap (λ (p : Problem). first_fault law.0 p) (sym same_problem) ∙ law.4) in
    told_none domain problem looks error endless (subst (λ (fault : Option StripsError). Tells fault error) none told) stop
