use Rattle.std.proofs.Common.{◌≡◌, ◌-◌, length}
use Rattle.pb_pddl.specs.Reading.{all_of, folds, begins_key, part_at, limited}
use Rattle.pb_syntax.proofs.action.parts.Given as goal

abbrev pub invariant-loop : goal.invariant-loop
invariant-loop l = folds (begins_key) (part_at limited) (length l.tokens - l.counter) l.out l.rest ≡ all_of (begins_key) (part_at limited) l.fn.out l.tokens
