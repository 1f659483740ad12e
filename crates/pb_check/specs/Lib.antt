pub use Rattle.pb_estimate.specs.Estimates
pub use Rattle.pb_estimate.specs.Spelling as EstimateSpelling
pub use Rattle.pb_estimate.specs.Tables
pub use Rattle.pb_lines.specs.Words as LinesWords
pub use Rattle.pb_task.specs.Groundings
pub use Rattle.pb_task.specs.Kinds
pub use Rattle.pb_task.specs.Parts
pub mod Faults
pub mod Words
pub mod Reading
pub mod Numbers
pub mod Rows
pub mod Spelling
pub mod Judging
pub mod Fronts
pub mod Kept
pub mod Pieces
pub mod RowsToJudge
pub mod PlanLines
pub mod Shown
pub mod Cases
