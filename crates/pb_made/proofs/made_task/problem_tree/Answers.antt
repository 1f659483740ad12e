use Rattle.std.proofs.Common.{◌∙◌, ap, sym}
use Rattle.pb_pddl.specs.Readings.{problem_reading}
use Rattle.pb_made.proofs.Spelled.{problem_is_memory}
use Rattle.pb_made.proofs.made_task.problem_tree.Goals as goal

pub syntax_memory-requires : goal.syntax_memory-requires
syntax_memory-requires c =
    problem_is_memory c.args.seed c.args.blocks c.requires c.as_slice.result.now (c.as_slice.ensures.value ∙ c.in_ok-text.ensures) c.in-Err.error c.in-Err.ensures.reading

pub returns-in-Ok : goal.returns-in-Ok
returns-in-Ok c = ap problem_reading (sym (c.as_slice.ensures.value ∙ c.in_ok-text.ensures)) ∙ c.in-Ok.ensures.reading
