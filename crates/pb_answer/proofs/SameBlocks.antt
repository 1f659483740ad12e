-- A journal is judged without swamp: its blocks are those of the task that was searched, with swamp or without. `pb_run` cites this module.
use Rattle.std.proofs.Common.{◌≡◌, ℕ, ◌+◌, Bool, false, Option, None, Some, Result, Ok, Err, List, slice_get, refl, ap, subst}
use Rattle.pb_task.specs.declared.parts.TaskParts.{TaskParts}
use Rattle.pb_task.specs.declared.parts.TaskParts.TheVariants as parts
use Rattle.pb_task.specs.declared.parts.GridParts.{GridParts}
use Rattle.pb_grid.specs.declared.error.GridError.{GridError}
use Rattle.pb_grid.specs.Laws.{SwampChangesMarksAlone}
use Rattle.pb_grid.specs.Lines.{lines_of}
use Rattle.pb_grid.specs.Reading.{grid_reading, swamp_of, task_of}
use Rattle.pb_abstract.specs.Laws.{BlocksAskForNoCosts}
use Rattle.pb_report.specs.Texts.{input_text}
use Rattle.pb_command.specs.declared.command.InputOptions.{InputOptions}
use Rattle.pb_command.specs.Values.{InputNames, Grid, Tiles, Strips}
use Rattle.pb_answer.specs.Loaded.{refused_with, grid_told, grid_task, input_task}
use Rattle.pb_answer.specs.Journals.{IsJournalOf}

-- what is a journal of the one task is one of the other
abbrev pub HasItsJournals : (one other : TaskParts) → Type 0
HasItsJournals one other = (text : List ℕ) (events : ℕ) → IsJournalOf one text events → IsJournalOf other text events

-- no cost decides which blocks there are
of_grids : BlocksAskForNoCosts → (grid : GridParts) (marks : List Bool) → HasItsJournals (parts.Grid grid) (parts.Grid (record grid { swamp = marks }))
of_grids blocks grid marks text events is =
    let there = blocks grid marks is.blocks.settings.wish is.abstraction is.blocks.graph_of is.blocks.finest in
    record {
      abstraction = is.abstraction;
      blocks = record { settings = is.blocks.settings; header = is.blocks.header; graph_of = there.0; finest = there.1 };
      finished = is.finished;
    }

-- the task of the same input without swamp, with the journals of this one
pub record Swampless (one : TaskParts) (task : Result TaskParts (List ℕ)) : Type 0 where
  pub other : TaskParts
  pub is : task ≡ Ok other
  pub journals : HasItsJournals one other

module _ (law : SwampChangesMarksAlone) (blocks : BlocksAskForNoCosts) where
  of_texts : (map_text scenario_text : Option (List ℕ)) (options : InputOptions) (one : TaskParts) → grid_task map_text scenario_text options ≡ Ok one
      → Swampless one (grid_task map_text scenario_text (record options { swamp = false }))
  of_texts None scenario_text options one e = absurd cc
  of_texts (Some map_text) None options one e = absurd cc
  of_texts (Some map_text) (Some scenario_text) options one e = at (grid_reading map_text scenario_text options.row options.swamp) refl e
    where
      none : (report : Option (List ℕ)) → refused_with report ≡ Ok one → Swampless one (grid_task (Some map_text) (Some scenario_text) (record options { swamp = false }))
      none None f = absurd cc
      none (Some text) f = absurd cc

      at : (reading : Result GridParts GridError) → grid_reading map_text scenario_text options.row options.swamp ≡ reading → grid_told (task_of reading) ≡ Ok one
          → Swampless one (grid_task (Some map_text) (Some scenario_text) (record options { swamp = false }))
      at (Ok grid) reads f =
          let same : parts.Grid grid ≡ one = cc in
          subst (λ (t : TaskParts). Swampless t (grid_task (Some map_text) (Some scenario_text) (record options { swamp = false }))) same (record {
            other = parts.Grid (record grid { swamp = swamp_of false grid.height (lines_of map_text) });
            is = ap (λ (r : Result GridParts GridError). grid_told (task_of r)) (law map_text scenario_text options.row options.swamp false grid reads);
            journals = of_grids blocks grid (swamp_of false grid.height (lines_of map_text));
          })
      at (Err error) reads f = none (input_text error) f

  -- the task of an input with the words for a row and for swamp, and of the same without swamp
  pub without_swamp : (input : InputNames) (options : InputOptions) (first : ℕ) (texts : List (List ℕ)) (one : TaskParts) → input_task input options first texts ≡ Ok one
      → Swampless one (input_task input (record options { swamp = false }) first texts)
  without_swamp (Grid names) options first texts one e = of_texts (slice_get texts first) (slice_get texts (first + 1)) options one e
  without_swamp (Tiles board) options first texts one e = record { other = one; is = e; journals = λ text events is. is }
  without_swamp (Strips names) options first texts one e = record { other = one; is = e; journals = λ text events is. is }
