-- The worked rows compute.
use Rattle.std.proofs.Common.{refl}
use Rattle.pb_tables.specs.Suits.{first_order_fault, first_step_fault, first_unpaid}
use Rattle.pb_tables.specs.Estimate.{tables_estimate}
use Rattle.pb_tables.specs.Examples.{ExamplesAreEstimated, ExamplesAreJudged}

pub examples_are_estimated : ExamplesAreEstimated
unfolding tables_estimate
examples_are_estimated = record {
  start = refl;
  goal = refl;
  unlisted = refl;
  summed = refl;
  greatest = refl;
  trapped = refl;
  free = refl;
  nothing = refl;
}

pub examples_are_judged : ExamplesAreJudged
unfolding first_order_fault first_step_fault first_unpaid
examples_are_judged = record {
  suits = refl;
  shared = refl;
  either = refl;
  nothing = refl;
  trap = refl;
  dear = refl;
  dear_together = refl;
  dear_later = refl;
  dear_goal = refl;
  falling = refl;
  leads_out = refl;
  foreign_atom = refl;
  foreign_image = refl;
  way_out = refl;
  goal_in_trap = refl;
}
