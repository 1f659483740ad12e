-- What proofs of other crates may cite. All else in proofs/ is private to this crate.
pub use Rattle.pb_lifted.proofs.Accepted.{well_typed_is_accepted}
pub use Rattle.pb_lifted.proofs.DistinctNames.{distinct_on, text_of}
pub use Rattle.pb_lifted.proofs.Faultless.{faultless, nil_left, nil_right}
pub use Rattle.pb_lifted.proofs.FittingObjects.{at_mapped, count_is, holds_at, mapped_at}
pub use Rattle.pb_lifted.proofs.GroundSteps.{ground_goal_is_goal, ground_start_is_start}
pub use Rattle.pb_lifted.proofs.GroundSteps.{ground_steps_are_steps, schema_in}
pub use Rattle.pb_lifted.proofs.GroundSteps.{steps_are_ground_steps}
pub use Rattle.pb_lifted.proofs.SameCosts.{costs_are_in_range, schemas_cost_the_same}
pub use Rattle.pb_lifted.proofs.TypedInstances.{goal_is_typed, instances_are_typed, start_is_typed}
pub use Rattle.pb_lifted.proofs.WaysUp.{goes_up, stays}
pub use Rattle.pb_lifted.proofs.WellTyped.{accepted_is_well_typed}
