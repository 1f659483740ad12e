pub use Rattle.pb_abstract.specs.Graph
pub use Rattle.pb_estimate.specs.Estimates
pub use Rattle.pb_estimate.specs.Tables
pub use Rattle.pb_lists.specs.Bundle
pub use Rattle.pb_mail.specs.Passes
pub use Rattle.pb_mail.specs.Posted
pub use Rattle.pb_mail.specs.Rule
pub use Rattle.pb_model.specs.Guide
pub use Rattle.pb_model.specs.Space
pub use Rattle.pb_model.specs.Store
pub use Rattle.pb_model.specs.Weight
pub use Rattle.pb_model.specs.Work
pub use Rattle.pb_task.specs.Parts as TaskParts
pub mod Shares
pub mod Plans
pub mod Expanding
pub mod Working
pub mod Taking
