pub use Rattle.pb_packed.specs.Sizes
pub use Rattle.pb_task.specs.Parts
pub use Rattle.pb_task.specs.Strips
pub use Rattle.pb_task.specs.Tiles
pub use Rattle.pb_task.specs.Marks
pub use Rattle.pb_pattern.specs.Patterns
pub use Rattle.pb_pattern.specs.Tables as PatternTables
pub use Rattle.pb_tables.specs.Tables as CostTables
pub use Rattle.pb_tables.specs.Suits
pub use Rattle.pb_tables.specs.Estimate
pub use Rattle.pb_table_lines.specs.Lines
pub use Rattle.pb_table_lines.specs.Numbered as TableNumbers
pub use Rattle.pb_task.specs.Widths
pub use Rattle.pb_table_lines.specs.Spelling as TableSpelling
pub mod Choices
pub mod Hmax
pub mod Estimates
pub mod CostWords
pub mod Exploring
pub mod Merged
pub mod Relaxed
pub mod Layers
pub mod Indexed
pub mod Tables
pub mod Spelling
pub mod Laws
