use Rattle.std.proofs.Common.{◌≡◌, ◌+◌, ◌-◌, ◌*◌, length}
use Rattle.pb_pddl.specs.Reading.{all_of, folds, begins_open, effect_at}
use Rattle.pb_syntax.proofs.conditions.+effect.Given as goal

abbrev pub decreases-effect : goal.decreases-effect
decreases-effect l = 3 * l.room

abbrev pub decreases-effects : goal.decreases-effects
decreases-effects l = 3 * l.room + 2

abbrev pub decreases-all_effects : goal.decreases-all_effects
decreases-all_effects l = 3 * l.room + 1

abbrev pub invariant-all_effects-loop : goal.invariant-all_effects-loop
invariant-all_effects-loop l = folds (begins_open) (effect_at l.room) (length l.tokens - l.counter) l.out l.rest ≡ all_of (begins_open) (effect_at l.room) l.fn.out l.tokens
