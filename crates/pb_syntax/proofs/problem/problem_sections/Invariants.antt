use Rattle.std.proofs.Common.{◌≡◌, ◌-◌, length}
use Rattle.pb_pddl.specs.Reading.{all_of, folds, begins_open, problem_section, limited}
use Rattle.pb_syntax.proofs.problem.problem_sections.Given as goal

abbrev pub invariant-loop : goal.invariant-loop
invariant-loop l = folds (begins_open) (problem_section limited) (length l.tokens - l.counter) l.out l.rest ≡ all_of (begins_open) (problem_section limited) l.fn.out l.tokens
