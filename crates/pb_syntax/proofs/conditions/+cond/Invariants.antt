use Rattle.std.proofs.Common.{◌≡◌, ◌+◌, ◌-◌, ◌*◌, length}
use Rattle.pb_pddl.specs.Reading.{all_of, folds, begins_open, cond_at}
use Rattle.pb_syntax.proofs.conditions.+cond.Given as goal

abbrev pub decreases-cond : goal.decreases-cond
decreases-cond l = 3 * l.room

abbrev pub decreases-conds : goal.decreases-conds
decreases-conds l = 3 * l.room + 2

abbrev pub decreases-all_conds : goal.decreases-all_conds
decreases-all_conds l = 3 * l.room + 1

abbrev pub invariant-all_conds-loop : goal.invariant-all_conds-loop
invariant-all_conds-loop l = folds (begins_open) (cond_at l.variables l.room) (length l.tokens - l.counter) l.out l.rest ≡ all_of (begins_open) (cond_at l.variables l.room) l.fn.out l.tokens
