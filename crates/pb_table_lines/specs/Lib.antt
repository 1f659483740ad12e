pub use Rattle.pb_lines.specs.Words as LinesWords
pub use Rattle.pb_model.specs.Texts
pub use Rattle.pb_print.specs.Saved
pub use Rattle.pb_tables.specs.Suits
pub use Rattle.pb_tables.specs.Tables
pub mod Words
pub mod Lines
pub mod Stated
pub mod Reading
pub mod Faults
pub mod Spelling
pub mod Laws
pub mod Refused
pub mod Numbered
pub mod Examples
