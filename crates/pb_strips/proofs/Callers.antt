-- What proofs of other crates may cite. All else in proofs/ is private to this crate.
pub use Rattle.pb_strips.proofs.Groundings.{names_tell_actions_with, no_fault_with}
pub use Rattle.pb_strips.proofs.Groundings.{packed_plans_are_plans_with, plans_are_packed_plans_with}
pub use Rattle.pb_strips.proofs.Never.{no_fault}
pub use Rattle.pb_strips.proofs.PlansAgree.{packed_plans_are_plans, plans_are_packed_plans}
pub use Rattle.pb_strips.proofs.Printed.{names_are_printed}
pub use Rattle.pb_strips.proofs.Telling.{names_tell_actions}
