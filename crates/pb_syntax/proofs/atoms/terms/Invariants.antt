use Rattle.std.proofs.Common.{◌≡◌, ◌-◌, [], length}
use Rattle.pb_pddl.specs.Reading.{all_of, folds, begins_term, add_term}
use Rattle.pb_syntax.proofs.atoms.terms.Given as goal

abbrev pub invariant-loop : goal.invariant-loop
invariant-loop l = folds (begins_term l.variables) add_term (length l.tokens - l.counter) l.out l.rest ≡ all_of (begins_term l.variables) add_term [] l.tokens
