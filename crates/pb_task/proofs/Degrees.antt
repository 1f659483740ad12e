-- A state has no more successors than there are actions.
use Rattle.std.proofs.Common.{ℕ, zero, suc, ◌≤◌, Option, None, Some, length, length-append, arith}
use Rattle.pb_model.specs.Space.{Space, steps_below, successor_list}
use Rattle.pb_task.specs.Laws.{DegreesAreBounded}
use Rattle.pb_task.specs.Parts.{space_of}

at_most_one : (action : ℕ) (step : Option (ℕ × ℕ)) → length (successor_list action step) ≤ 1
at_most_one action None = omega arith
at_most_one action (Some step) = omega arith

pub few_below : (space : Space) (state count : ℕ) → length (steps_below space state count) ≤ count
few_below space state zero = omega arith
few_below space state (suc action) =
    omega (arith, length-append (steps_below space state action) (successor_list action (space.step state action)), few_below space state action, at_most_one action (space.step state action))

pub degrees_are_bounded : DegreesAreBounded
degrees_are_bounded parts state = few_below (space_of parts) state (space_of parts).actions
