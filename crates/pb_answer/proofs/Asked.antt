-- The engine and the choice of an estimate that the words ask for.
use Rattle.std.proofs.Common.{◌≡◌, inl, inr, ℕ, zero, suc, ◌≤◌, true, Option, None, Some, IfSome, refl, sym, ◌∙◌, ap, subst, arith}
use Rattle.pb_machine.specs.declared.event.End.{End}
use Rattle.pb_task.specs.declared.parts.TaskParts.{TaskParts}
use Rattle.pb_task.specs.declared.parts.TaskParts.TheVariants.{Grid, Tiles, Strips}
use Rattle.pb_tables.specs.Tables.{TablesValue}
use Rattle.pb_estimate.specs.Choices.{Choice, Tables as ByTables, choice_with}
use Rattle.pb_estimate.specs.Estimates.{suits}
use Rattle.pb_command.specs.declared.command.Engine.{Engine}
use Rattle.pb_command.specs.Meaning.{SolveMeaning, IsSolveInRange}
use Rattle.pb_answer.specs.Searches.{settings_of, IsChoiceFor, IsChoiceAsked}
use Rattle.pb_answer.specs.Engines.{Left, engine_asked, SearchLeaves}

-- ---- the engine

-- if the words ask for this engine, what it leaves is what the search leaves
pub asked : (solve : SolveMeaning) (engine : Engine) → engine_asked solve ≡ engine
    → (parts : TaskParts) (choice : Choice) (end : End) (left : Left)
    → SearchLeaves engine parts choice (settings_of solve) end left
    → SearchLeaves (engine_asked solve) parts choice (settings_of solve) end left
asked solve engine is parts choice end left leaves =
    subst (λ (e : Engine). SearchLeaves e parts choice (settings_of solve) end left) (sym is) leaves

-- and the other way round
pub by_engine : (solve : SolveMeaning) (engine : Engine) → engine_asked solve ≡ engine
    → (parts : TaskParts) (choice : Choice) (end : End) (left : Left)
    → SearchLeaves (engine_asked solve) parts choice (settings_of solve) end left
    → SearchLeaves engine parts choice (settings_of solve) end left
by_engine solve engine is parts choice end left leaves =
    subst (λ (e : Engine). SearchLeaves e parts choice (settings_of solve) end left) is leaves

-- ---- the choice of an estimate

-- the choice with a number from 0 to 12 suits each task
with_suits : (task : TaskParts) (pattern : ℕ) → pattern ≤ 12
    → suits task (choice_with pattern) ≡ true
with_suits task zero small = refl
with_suits task (suc n) small = grind (arith, small)

for_suits : (effort : Option ℕ) (pattern : ℕ) → pattern ≤ 12 → (task : TaskParts) (choice : Choice)
    → IsChoiceFor effort pattern task choice → suits task choice ≡ true
for_suits None pattern small task choice is =
    ap (λ (c : Choice). suits task c) is ∙ with_suits task pattern small
for_suits (Some effort) pattern small (Grid grid) choice is =
    ap (λ (c : Choice). suits (Grid grid) c) is ∙ with_suits (Grid grid) pattern small
for_suits (Some effort) pattern small (Tiles tiles) choice is =
    ap (λ (c : Choice). suits (Tiles tiles) c) is
    ∙ with_suits (Tiles tiles) pattern small
for_suits (Some effort) pattern small (Strips strips) choice (inl plain) =
    ap (λ (c : Choice). suits (Strips strips) c) plain
for_suits (Some effort) pattern small (Strips strips) choice (inr (tables, is, are, suit, few)) =
    ap (λ (c : Choice). suits (Strips strips) c) is ∙ suit

-- tables of a file, if there are any, suit the task
abbrev pub Suit : TaskParts → (given : Option TablesValue) → Type 0
Suit task given = IfSome given (λ tables. suits task (ByTables tables) ≡ true)

-- a choice that the words ask for suits the task, if tables of a file do
pub asked_suits : (solve : SolveMeaning) (given : Option TablesValue) (task : TaskParts)
    (choice : Choice) → IsSolveInRange solve → Suit task given
    → IsChoiceAsked solve given task choice → suits task choice ≡ true
asked_suits solve None task choice range suit is =
    for_suits solve.effort solve.settings.pattern range.settings.pattern task choice is
asked_suits solve (Some tables) task choice range suit is =
    ap (λ (c : Choice). suits task c) is ∙ suit
