use Rattle.std.proofs.Common.{◌≡◌, ◌-◌, length}
use Rattle.pb_pddl.specs.Reading.{all_of, folds, begins_key, add_key}
use Rattle.pb_syntax.proofs.lists.all_keys.Given as goal

abbrev pub invariant-loop : goal.invariant-loop
invariant-loop l = folds (begins_key) (add_key) (length l.tokens - l.counter) l.out l.rest ≡ all_of (begins_key) (add_key) l.fn.out l.tokens
