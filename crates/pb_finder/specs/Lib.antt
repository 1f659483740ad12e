pub use Rattle.pb_task.specs.Strips
pub use Rattle.pb_tables.specs.Tables
pub use Rattle.pb_tables.specs.Suits
pub mod Sizes
