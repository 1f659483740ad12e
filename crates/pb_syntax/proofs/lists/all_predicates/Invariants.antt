use Rattle.std.proofs.Common.{◌≡◌, ◌-◌, length}
use Rattle.pb_pddl.specs.Reading.{all_of, folds, begins_open, add_predicate}
use Rattle.pb_syntax.proofs.lists.all_predicates.Given as goal

abbrev pub invariant-loop : goal.invariant-loop
invariant-loop l = folds (begins_open) (add_predicate) (length l.tokens - l.counter) l.out l.rest ≡ all_of (begins_open) (add_predicate) l.fn.out l.tokens
