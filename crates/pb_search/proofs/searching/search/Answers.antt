use Rattle.std.specs.Arc.{arc_value}
use Rattle.pb_search.proofs.Clauses.{task_then, blocks_then, finest_then, settings_then, choice_then, past_then, ended_then, best_then, quiet_run_then, stop_then, plain_then, left_then, fits_then}
use Rattle.pb_search.proofs.Ending.{first_of}
use Rattle.pb_search.proofs.searching.search.Goals as goal

pub returns-then-settings-eq1-clause-task : goal.returns-then-settings-eq1-clause-task
returns-then-settings-eq1-clause-task g c =
    task_then (arc_value c.args.task.now) c.deref.result.now (arc_value c.in_ok-abstraction.abstraction) c.in_ok-of.field-0 c.deref-2.result.now
    c.args.choice c.args.settings c.requires.range c.deref.ensures c.in_ok-abstraction.ensures.ok c.in_ok-of.ensures.graph c.in_ok-of.ensures.finest
    c.deref-2.ensures c.count-few.ensures.lawful c.in_ok-graph.graph c.in_ok-graph.ensures c.search_alone.result c.search_alone.ensures

pub returns-then-settings-eq1-clause-blocks : goal.returns-then-settings-eq1-clause-blocks
returns-then-settings-eq1-clause-blocks g c =
    blocks_then (arc_value c.args.task.now) c.deref.result.now (arc_value c.in_ok-abstraction.abstraction) c.in_ok-of.field-0 c.deref-2.result.now
    c.args.choice c.args.settings c.requires.range c.deref.ensures c.in_ok-abstraction.ensures.ok c.in_ok-of.ensures.graph c.in_ok-of.ensures.finest
    c.deref-2.ensures c.count-few.ensures.lawful c.in_ok-graph.graph c.in_ok-graph.ensures c.search_alone.result c.search_alone.ensures

pub returns-then-settings-eq1-clause-finest : goal.returns-then-settings-eq1-clause-finest
returns-then-settings-eq1-clause-finest g c =
    finest_then (arc_value c.args.task.now) c.deref.result.now (arc_value c.in_ok-abstraction.abstraction) c.in_ok-of.field-0 c.deref-2.result.now
    c.args.choice c.args.settings c.requires.range c.deref.ensures c.in_ok-abstraction.ensures.ok c.in_ok-of.ensures.graph c.in_ok-of.ensures.finest
    c.deref-2.ensures c.count-few.ensures.lawful c.in_ok-graph.graph c.in_ok-graph.ensures c.search_alone.result c.search_alone.ensures

pub returns-then-settings-eq1-clause-settings : goal.returns-then-settings-eq1-clause-settings
returns-then-settings-eq1-clause-settings g c =
    settings_then (arc_value c.args.task.now) c.deref.result.now (arc_value c.in_ok-abstraction.abstraction) c.in_ok-of.field-0 c.deref-2.result.now
    c.args.choice c.args.settings c.requires.range c.deref.ensures c.in_ok-abstraction.ensures.ok c.in_ok-of.ensures.graph c.in_ok-of.ensures.finest
    c.deref-2.ensures c.count-few.ensures.lawful c.in_ok-graph.graph c.in_ok-graph.ensures c.search_alone.result c.search_alone.ensures

pub returns-then-settings-eq1-clause-choice : goal.returns-then-settings-eq1-clause-choice
returns-then-settings-eq1-clause-choice g c =
    choice_then (arc_value c.args.task.now) c.deref.result.now (arc_value c.in_ok-abstraction.abstraction) c.in_ok-of.field-0 c.deref-2.result.now
    c.args.choice c.args.settings c.requires.range c.deref.ensures c.in_ok-abstraction.ensures.ok c.in_ok-of.ensures.graph c.in_ok-of.ensures.finest
    c.deref-2.ensures c.count-few.ensures.lawful c.in_ok-graph.graph c.in_ok-graph.ensures c.search_alone.result c.search_alone.ensures

pub returns-then-settings-eq1-clause-past : goal.returns-then-settings-eq1-clause-past
returns-then-settings-eq1-clause-past g c =
    past_then (arc_value c.args.task.now) c.deref.result.now (arc_value c.in_ok-abstraction.abstraction) c.in_ok-of.field-0 c.deref-2.result.now
    c.args.choice c.args.settings c.requires.range c.deref.ensures c.in_ok-abstraction.ensures.ok c.in_ok-of.ensures.graph c.in_ok-of.ensures.finest
    c.deref-2.ensures c.count-few.ensures.lawful c.in_ok-graph.graph c.in_ok-graph.ensures c.search_alone.result c.search_alone.ensures

pub returns-then-settings-eq1-clause-ended : goal.returns-then-settings-eq1-clause-ended
returns-then-settings-eq1-clause-ended g c =
    ended_then (arc_value c.args.task.now) c.deref.result.now (arc_value c.in_ok-abstraction.abstraction) c.in_ok-of.field-0 c.deref-2.result.now
    c.args.choice c.args.settings c.requires.range c.deref.ensures c.in_ok-abstraction.ensures.ok c.in_ok-of.ensures.graph c.in_ok-of.ensures.finest
    c.deref-2.ensures c.count-few.ensures.lawful c.in_ok-graph.graph c.in_ok-graph.ensures c.search_alone.result c.search_alone.ensures

pub returns-then-settings-eq1-clause-quiet : goal.returns-then-settings-eq1-clause-quiet
returns-then-settings-eq1-clause-quiet g c =
    best_then (arc_value c.args.task.now) c.deref.result.now (arc_value c.in_ok-abstraction.abstraction) c.in_ok-of.field-0 c.deref-2.result.now
    c.args.choice c.args.settings c.requires.range c.deref.ensures c.in_ok-abstraction.ensures.ok c.in_ok-of.ensures.graph c.in_ok-of.ensures.finest
    c.deref-2.ensures c.count-few.ensures.lawful c.in_ok-graph.graph c.in_ok-graph.ensures c.search_alone.result c.search_alone.ensures

pub returns-then-settings-eq1-clause-quiet_run : goal.returns-then-settings-eq1-clause-quiet_run
returns-then-settings-eq1-clause-quiet_run g c =
    quiet_run_then (arc_value c.args.task.now) c.deref.result.now (arc_value c.in_ok-abstraction.abstraction) c.in_ok-of.field-0 c.deref-2.result.now
    c.args.choice c.args.settings c.requires.range c.deref.ensures c.in_ok-abstraction.ensures.ok c.in_ok-of.ensures.graph c.in_ok-of.ensures.finest
    c.deref-2.ensures c.count-few.ensures.lawful c.in_ok-graph.graph c.in_ok-graph.ensures c.search_alone.result c.search_alone.ensures

pub returns-then-settings-eq1-clause-budget : goal.returns-then-settings-eq1-clause-budget
returns-then-settings-eq1-clause-budget g c =
    stop_then (arc_value c.args.task.now) c.deref.result.now (arc_value c.in_ok-abstraction.abstraction) c.in_ok-of.field-0 c.deref-2.result.now
    c.args.choice c.args.settings c.requires.range c.deref.ensures c.in_ok-abstraction.ensures.ok c.in_ok-of.ensures.graph c.in_ok-of.ensures.finest
    c.deref-2.ensures c.count-few.ensures.lawful c.in_ok-graph.graph c.in_ok-graph.ensures c.search_alone.result c.search_alone.ensures

pub returns-then-settings-eq1-clause-plain : goal.returns-then-settings-eq1-clause-plain
returns-then-settings-eq1-clause-plain g c =
    plain_then (arc_value c.args.task.now) c.deref.result.now (arc_value c.in_ok-abstraction.abstraction) c.in_ok-of.field-0 c.deref-2.result.now
    c.args.choice c.args.settings c.requires.range c.deref.ensures c.in_ok-abstraction.ensures.ok c.in_ok-of.ensures.graph c.in_ok-of.ensures.finest
    c.deref-2.ensures c.count-few.ensures.lawful c.in_ok-graph.graph c.in_ok-graph.ensures c.search_alone.result c.search_alone.ensures

pub returns-then-settings-eq1-clause-left : goal.returns-then-settings-eq1-clause-left
returns-then-settings-eq1-clause-left g c =
    left_then (arc_value c.args.task.now) c.deref.result.now (arc_value c.in_ok-abstraction.abstraction) c.in_ok-of.field-0 c.deref-2.result.now
    c.args.choice c.args.settings c.requires.range c.deref.ensures c.in_ok-abstraction.ensures.ok c.in_ok-of.ensures.graph c.in_ok-of.ensures.finest
    c.deref-2.ensures c.count-few.ensures.lawful c.in_ok-graph.graph c.in_ok-graph.ensures c.search_alone.result c.search_alone.ensures

pub returns-then-settings-eq1-clause-fits : goal.returns-then-settings-eq1-clause-fits
returns-then-settings-eq1-clause-fits g c =
    fits_then (arc_value c.args.task.now) c.deref.result.now (arc_value c.in_ok-abstraction.abstraction) c.in_ok-of.field-0 c.deref-2.result.now
    c.args.choice c.args.settings c.requires.range c.deref.ensures c.in_ok-abstraction.ensures.ok c.in_ok-of.ensures.graph c.in_ok-of.ensures.finest
    c.deref-2.ensures c.count-few.ensures.lawful c.in_ok-graph.graph c.in_ok-graph.ensures c.search_alone.result c.search_alone.ensures

pub returns-clause-task : goal.returns-clause-task
returns-clause-task g c =
    task_then (arc_value c.args.task.now) c.deref.result.now (arc_value c.in_ok-abstraction.abstraction) c.in_ok-of.field-0 c.deref-2.result.now
    c.args.choice c.args.settings c.requires.range c.deref.ensures c.in_ok-abstraction.ensures.ok c.in_ok-of.ensures.graph c.in_ok-of.ensures.finest
    c.deref-2.ensures c.count-few.ensures.lawful c.in_ok-graph.graph c.in_ok-graph.ensures c.search_together.result c.search_together.ensures

pub returns-clause-blocks : goal.returns-clause-blocks
returns-clause-blocks g c =
    blocks_then (arc_value c.args.task.now) c.deref.result.now (arc_value c.in_ok-abstraction.abstraction) c.in_ok-of.field-0 c.deref-2.result.now
    c.args.choice c.args.settings c.requires.range c.deref.ensures c.in_ok-abstraction.ensures.ok c.in_ok-of.ensures.graph c.in_ok-of.ensures.finest
    c.deref-2.ensures c.count-few.ensures.lawful c.in_ok-graph.graph c.in_ok-graph.ensures c.search_together.result c.search_together.ensures

pub returns-clause-finest : goal.returns-clause-finest
returns-clause-finest g c =
    finest_then (arc_value c.args.task.now) c.deref.result.now (arc_value c.in_ok-abstraction.abstraction) c.in_ok-of.field-0 c.deref-2.result.now
    c.args.choice c.args.settings c.requires.range c.deref.ensures c.in_ok-abstraction.ensures.ok c.in_ok-of.ensures.graph c.in_ok-of.ensures.finest
    c.deref-2.ensures c.count-few.ensures.lawful c.in_ok-graph.graph c.in_ok-graph.ensures c.search_together.result c.search_together.ensures

pub returns-clause-settings : goal.returns-clause-settings
returns-clause-settings g c =
    settings_then (arc_value c.args.task.now) c.deref.result.now (arc_value c.in_ok-abstraction.abstraction) c.in_ok-of.field-0 c.deref-2.result.now
    c.args.choice c.args.settings c.requires.range c.deref.ensures c.in_ok-abstraction.ensures.ok c.in_ok-of.ensures.graph c.in_ok-of.ensures.finest
    c.deref-2.ensures c.count-few.ensures.lawful c.in_ok-graph.graph c.in_ok-graph.ensures c.search_together.result c.search_together.ensures

pub returns-clause-choice : goal.returns-clause-choice
returns-clause-choice g c =
    choice_then (arc_value c.args.task.now) c.deref.result.now (arc_value c.in_ok-abstraction.abstraction) c.in_ok-of.field-0 c.deref-2.result.now
    c.args.choice c.args.settings c.requires.range c.deref.ensures c.in_ok-abstraction.ensures.ok c.in_ok-of.ensures.graph c.in_ok-of.ensures.finest
    c.deref-2.ensures c.count-few.ensures.lawful c.in_ok-graph.graph c.in_ok-graph.ensures c.search_together.result c.search_together.ensures

pub returns-clause-past : goal.returns-clause-past
returns-clause-past g c =
    past_then (arc_value c.args.task.now) c.deref.result.now (arc_value c.in_ok-abstraction.abstraction) c.in_ok-of.field-0 c.deref-2.result.now
    c.args.choice c.args.settings c.requires.range c.deref.ensures c.in_ok-abstraction.ensures.ok c.in_ok-of.ensures.graph c.in_ok-of.ensures.finest
    c.deref-2.ensures c.count-few.ensures.lawful c.in_ok-graph.graph c.in_ok-graph.ensures c.search_together.result c.search_together.ensures

pub returns-clause-ended : goal.returns-clause-ended
returns-clause-ended g c =
    ended_then (arc_value c.args.task.now) c.deref.result.now (arc_value c.in_ok-abstraction.abstraction) c.in_ok-of.field-0 c.deref-2.result.now
    c.args.choice c.args.settings c.requires.range c.deref.ensures c.in_ok-abstraction.ensures.ok c.in_ok-of.ensures.graph c.in_ok-of.ensures.finest
    c.deref-2.ensures c.count-few.ensures.lawful c.in_ok-graph.graph c.in_ok-graph.ensures c.search_together.result c.search_together.ensures

pub returns-clause-quiet : goal.returns-clause-quiet
returns-clause-quiet g c =
    best_then (arc_value c.args.task.now) c.deref.result.now (arc_value c.in_ok-abstraction.abstraction) c.in_ok-of.field-0 c.deref-2.result.now
    c.args.choice c.args.settings c.requires.range c.deref.ensures c.in_ok-abstraction.ensures.ok c.in_ok-of.ensures.graph c.in_ok-of.ensures.finest
    c.deref-2.ensures c.count-few.ensures.lawful c.in_ok-graph.graph c.in_ok-graph.ensures c.search_together.result c.search_together.ensures

pub returns-clause-quiet_run : goal.returns-clause-quiet_run
returns-clause-quiet_run g c =
    quiet_run_then (arc_value c.args.task.now) c.deref.result.now (arc_value c.in_ok-abstraction.abstraction) c.in_ok-of.field-0 c.deref-2.result.now
    c.args.choice c.args.settings c.requires.range c.deref.ensures c.in_ok-abstraction.ensures.ok c.in_ok-of.ensures.graph c.in_ok-of.ensures.finest
    c.deref-2.ensures c.count-few.ensures.lawful c.in_ok-graph.graph c.in_ok-graph.ensures c.search_together.result c.search_together.ensures

pub returns-clause-budget : goal.returns-clause-budget
returns-clause-budget g c =
    stop_then (arc_value c.args.task.now) c.deref.result.now (arc_value c.in_ok-abstraction.abstraction) c.in_ok-of.field-0 c.deref-2.result.now
    c.args.choice c.args.settings c.requires.range c.deref.ensures c.in_ok-abstraction.ensures.ok c.in_ok-of.ensures.graph c.in_ok-of.ensures.finest
    c.deref-2.ensures c.count-few.ensures.lawful c.in_ok-graph.graph c.in_ok-graph.ensures c.search_together.result c.search_together.ensures

pub returns-clause-plain : goal.returns-clause-plain
returns-clause-plain g c =
    plain_then (arc_value c.args.task.now) c.deref.result.now (arc_value c.in_ok-abstraction.abstraction) c.in_ok-of.field-0 c.deref-2.result.now
    c.args.choice c.args.settings c.requires.range c.deref.ensures c.in_ok-abstraction.ensures.ok c.in_ok-of.ensures.graph c.in_ok-of.ensures.finest
    c.deref-2.ensures c.count-few.ensures.lawful c.in_ok-graph.graph c.in_ok-graph.ensures c.search_together.result c.search_together.ensures

pub returns-clause-left : goal.returns-clause-left
returns-clause-left g c =
    left_then (arc_value c.args.task.now) c.deref.result.now (arc_value c.in_ok-abstraction.abstraction) c.in_ok-of.field-0 c.deref-2.result.now
    c.args.choice c.args.settings c.requires.range c.deref.ensures c.in_ok-abstraction.ensures.ok c.in_ok-of.ensures.graph c.in_ok-of.ensures.finest
    c.deref-2.ensures c.count-few.ensures.lawful c.in_ok-graph.graph c.in_ok-graph.ensures c.search_together.result c.search_together.ensures

pub returns-clause-fits : goal.returns-clause-fits
returns-clause-fits g c =
    fits_then (arc_value c.args.task.now) c.deref.result.now (arc_value c.in_ok-abstraction.abstraction) c.in_ok-of.field-0 c.deref-2.result.now
    c.args.choice c.args.settings c.requires.range c.deref.ensures c.in_ok-abstraction.ensures.ok c.in_ok-of.ensures.graph c.in_ok-of.ensures.finest
    c.deref-2.ensures c.count-few.ensures.lawful c.in_ok-graph.graph c.in_ok-graph.ensures c.search_together.result c.search_together.ensures
