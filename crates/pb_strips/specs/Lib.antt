pub use Rattle.pb_lifted.specs.Typing
pub use Rattle.pb_ground.specs.Looks
pub mod Names
pub mod Grounding
pub mod Refusals
pub mod Correspondence
pub mod Packing
pub mod Naming
