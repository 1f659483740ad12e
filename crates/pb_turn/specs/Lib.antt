pub mod Obligations
pub mod Passes
pub mod Table
