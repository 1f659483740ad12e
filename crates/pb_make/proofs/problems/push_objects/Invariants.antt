use Rattle.std.proofs.Common.{◌≡◌, ◌++◌, ◌-◌}
use Rattle.pb_make.specs.Problems.{objects_from}
use Rattle.pb_make.proofs.problems.push_objects.Given as goal

abbrev pub invariant-loop-block : goal.invariant-loop-block
invariant-loop-block l = l.text.items ++ objects_from l.block (l.blocks - l.block) ≡ l.fn.text.items ++ objects_from 0 l.blocks
