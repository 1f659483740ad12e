use Rattle.std.proofs.Common.{◌<◌}
use Rattle.pb_owners.specs.Between.{AnyOpened}
use Rattle.pb_owners.specs.Shares.{seat_at}
use Rattle.pb_owners.specs.Rounds.{HasSearched}
use Rattle.pb_owners.proofs.rounds.run_rounds.Given as goal

abbrev pub invariant-loop : goal.invariant-loop
invariant-loop g l =
    (goal.iterator-loop g).can_next l.iterator' × (goal.iterator-loop g).is_finite l.iterator'
    × HasSearched l.plan l.lot l.budget l.spent l.seats
    × AnyOpened (seat_at l.seats) × (l.spent < l.budget)
