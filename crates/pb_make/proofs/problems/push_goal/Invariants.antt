use Rattle.std.proofs.Common.{◌≡◌, ◌++◌, ◌-◌}
use Rattle.pb_make.specs.Draws.{draws}
use Rattle.pb_make.specs.Problems.{goal_from}
use Rattle.pb_make.proofs.problems.push_goal.Given as goal

abbrev pub invariant-loop-block : goal.invariant-loop-block
invariant-loop-block l =
    l.text.items ++ goal_from l.block (draws (l.block-end - l.block) l.generator.number) ≡ l.fn.text.items ++ goal_from 0 (draws (l.blocks - 1) l.seed)
