use Rattle.std.proofs.Common.{◌≡◌, ◌++◌, ◌-◌}
use Rattle.pb_make.specs.Problems.{facts_from}
use Rattle.pb_make.proofs.problems.push_facts.Given as goal

abbrev pub invariant-loop-block : goal.invariant-loop-block
invariant-loop-block l = l.text.items ++ facts_from l.block (l.blocks - l.block) ≡ l.fn.text.items ++ facts_from 0 l.blocks
