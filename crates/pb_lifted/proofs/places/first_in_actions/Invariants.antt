use Rattle.std.proofs.Common.{◌≡◌, flat_map, drop}
use Rattle.pb_lifted.specs.Names.{earliest}
use Rattle.pb_lifted.specs.Refusals.{in_action, in_actions}
use Rattle.pb_lifted.proofs.places.first_in_actions.Given as goal

abbrev pub invariant-loop-i : goal.invariant-loop-i
invariant-loop-i l =
    earliest l.found (flat_map (λ a. in_action l.cause l.domain l.problem a) (drop l.i l.domain.actions)) ≡ earliest l.fn.first (in_actions l.cause l.domain l.problem)
