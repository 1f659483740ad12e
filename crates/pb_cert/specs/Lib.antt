pub use Rattle.pb_check.specs.Judging
pub use Rattle.pb_check.specs.Shown
pub use Rattle.pb_check.specs.Spelling as CheckSpelling
pub use Rattle.pb_estimate.specs.Spelling
pub use Rattle.pb_lists.specs.Bundle
pub use Rattle.pb_lists.specs.Store
pub use Rattle.pb_model.specs.Certificate
pub use Rattle.pb_model.specs.Guide
pub use Rattle.pb_model.specs.Plan
pub use Rattle.pb_model.specs.Sound
pub use Rattle.pb_model.specs.Space
pub use Rattle.pb_model.specs.Store as ModelStore
pub use Rattle.pb_outside.specs.Calls
pub use Rattle.pb_outside.specs.Outside
pub use Rattle.pb_outside.specs.Saves
pub use Rattle.pb_task.specs.Parts
pub mod Traced
pub mod Found
pub mod Listed
pub mod Starts
pub mod Stated
pub mod Rewritten
pub mod Laws
