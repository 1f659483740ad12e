pub use Rattle.pb_abstract.specs.Graph
pub use Rattle.pb_bundles.specs.Choosing
pub use Rattle.pb_bundles.specs.Homes
pub use Rattle.pb_bundles.specs.Parts as BundlesParts
pub use Rattle.pb_estimate.specs.Estimates
pub use Rattle.pb_lists.specs.Bundle
pub use Rattle.pb_lists.specs.Store as ListsStore
pub use Rattle.pb_machine.specs.Blocks
pub use Rattle.pb_machine.specs.Choice
pub use Rattle.pb_machine.specs.Counters
pub use Rattle.pb_machine.specs.Counts
pub use Rattle.pb_machine.specs.History
pub use Rattle.pb_machine.specs.Machine
pub use Rattle.pb_machine.specs.Room
pub use Rattle.pb_machine.specs.Settings
pub use Rattle.pb_machine.specs.Tables as MachineTables
pub use Rattle.pb_model.specs.Store
pub use Rattle.pb_model.specs.Weight
pub use Rattle.pb_model.specs.Work
pub use Rattle.pb_task.specs.Parts as TaskParts
pub mod Tables
pub mod Kept
pub mod Events
pub mod Leasing
pub mod Marking
pub mod Laws
pub mod LeaseValue
pub mod Lending
pub mod Leased
pub mod GraphValue
pub mod Moments
pub mod Begins
pub mod Choices
pub mod Steps
pub mod Rows
pub mod AtHome
pub mod Free
