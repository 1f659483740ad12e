use Rattle.std.proofs.Common.{ap, ◌∙◌}
use Rattle.pb_strips.specs.Looks.{LooksValue}
use Rattle.pb_made.proofs.Spelled.{blocks_are_memory}
use Rattle.pb_made.proofs.made_task.made_blocks.Goals as goal

pub strips_memory-requires : goal.strips_memory-requires
strips_memory-requires c =
    blocks_are_memory c.args.seed c.args.blocks c.requires c.in_ok-domain.domain c.in_ok-problem.problem c.in_ok-domain.ensures c.in_ok-problem.ensures c.ground.new.looks
    c.in-Err.error (c.ground.ensures.since ∙ ap (λ (looks : LooksValue). looks.since) c.endless-looks.ensures) c.in-Err.ensures.refused c.in-Err.ensures.stopped

pub returns-in-Ok : goal.returns-in-Ok
returns-in-Ok c =
    (c.in_ok-domain.domain, c.in_ok-problem.problem, c.in_ok-domain.ensures, c.in_ok-problem.ensures, c.in-Ok.ensures.accepted, c.in-Ok.ensures.task)
