use Rattle.std.proofs.Common.{◌<◌, All, sym, ◌∙◌, subst}
use Rattle.pb_task.specs.declared.parts.TaskParts.{TaskParts}
use Rattle.pb_pattern.specs.Tables.{AreOfStrips, IsOfTask}
use Rattle.pb_pattern.proofs.Imaged.{atoms_of_pattern}
use Rattle.pb_pattern.proofs.table.Table.of.Goals as goal

pub costs_of_strips-requires-clause-atoms : goal.costs_of_strips-requires-clause-atoms
costs_of_strips-requires-clause-atoms c =
    subst (All (λ atom. atom < c.in-Strips.strips.atoms)) (sym (c.deref.ensures.value ∙ c.in_ok-tracked-in-Strips.ensures)) (atoms_of_pattern c.in-Strips.strips c.args.k c.requires).0

pub returns-in-Grid-clause-task : goal.returns-in-Grid-clause-task
unfolding IsOfTask
returns-in-Grid-clause-task c =
    subst (λ (t : TaskParts). IsOfTask (record { pattern = c.args.k; tracked = c.new.result.items; costs = c.new-in-Grid.result.items }) t) (sym (sym c.parts.ensures.parts ∙ c.in-Grid.is)) tt

pub returns-in_ok-costs_of_tiles-in-Tiles-clause-task : goal.returns-in_ok-costs_of_tiles-in-Tiles-clause-task
unfolding IsOfTask
returns-in_ok-costs_of_tiles-in-Tiles-clause-task c =
    subst (λ (t : TaskParts). IsOfTask (record { pattern = c.args.k; tracked = c.new-in-Tiles.result.items; costs = c.in_ok-costs_of_tiles-in-Tiles.field-0.items }) t) (sym (sym c.parts.ensures.parts ∙ c.in-Tiles.is))
    c.in_ok-costs_of_tiles-in-Tiles.ensures

pub returns-in_ok-costs-in-Strips-clause-task : goal.returns-in_ok-costs-in-Strips-clause-task
unfolding IsOfTask
returns-in_ok-costs-in-Strips-clause-task c =
    subst (λ (t : TaskParts). IsOfTask (record { pattern = c.args.k; tracked = c.in_ok-tracked-in-Strips.tracked.items; costs = c.in_ok-costs-in-Strips.costs.items }) t) (sym (sym c.parts.ensures.parts ∙ c.in-Strips.is))
    (c.in_ok-tracked-in-Strips.ensures, c.requires, subst (λ xs. AreOfStrips c.in-Strips.strips xs c.in_ok-costs-in-Strips.costs.items) c.deref.ensures.value c.in_ok-costs-in-Strips.ensures)
