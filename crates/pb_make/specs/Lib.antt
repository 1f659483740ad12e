pub mod Draws
pub mod Lines
pub mod Maps
pub mod Boards
pub mod Problems
pub mod Domain
