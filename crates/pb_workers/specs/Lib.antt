pub use Rattle.pb_abstract.specs.Graph
pub use Rattle.pb_estimate.specs.Tables as EstimateTables
pub use Rattle.pb_expand.specs.Turned
pub use Rattle.pb_expand.specs.Watching as ExpandWatching
pub use Rattle.pb_expand.specs.Worked
pub use Rattle.pb_lease.specs.Choices
pub use Rattle.pb_lease.specs.GraphValue
pub use Rattle.pb_lease.specs.LeaseValue
pub use Rattle.pb_lease.specs.Leased
pub use Rattle.pb_lease.specs.Tables as LeaseTables
pub use Rattle.pb_machine.specs.History
pub use Rattle.pb_model.specs.Store
pub use Rattle.pb_task.specs.Parts
pub use Rattle.pb_yard.specs.Calls
pub use Rattle.pb_yard.specs.Marking
pub use Rattle.pb_yard.specs.Passes
pub mod Runs
pub mod Holding
pub mod Ends
pub mod Turns
pub mod Shared
pub mod Sharing
pub mod Teams
pub mod Tools
pub mod Serving
pub mod Switched
pub mod Watching
