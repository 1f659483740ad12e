pub use Rattle.pb_abstract.specs.Graph
pub use Rattle.pb_bundles.specs.Parts as BundlesParts
pub use Rattle.pb_estimate.specs.Estimates
pub use Rattle.pb_estimate.specs.Tables
pub use Rattle.pb_lease.specs.LeaseValue
pub use Rattle.pb_lease.specs.Leased
pub use Rattle.pb_lease.specs.Rows
pub use Rattle.pb_lists.specs.Bundle
pub use Rattle.pb_machine.specs.Machine
pub use Rattle.pb_model.specs.Key
pub use Rattle.pb_model.specs.Space
pub use Rattle.pb_model.specs.Store
pub use Rattle.pb_model.specs.Weight
pub use Rattle.pb_task.specs.Parts as TaskParts
pub mod Turned
pub mod Worked
pub mod Watching
