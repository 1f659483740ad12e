use Rattle.std.proofs.Common.{◌≡◌, ◌-◌, length}
use Rattle.pb_pddl.specs.Reading.{all_of, folds, begins_group, group_step}
use Rattle.pb_syntax.proofs.lists.groups.Given as goal

abbrev pub invariant-loop : goal.invariant-loop
invariant-loop l = folds (begins_group l.kind) (group_step l.kind) (length l.tokens - l.counter) l.out l.rest ≡ all_of (begins_group l.kind) (group_step l.kind) l.fn.out l.tokens
