pub use Rattle.pb_model.specs.Texts
pub use Rattle.pb_outside.specs.Calls
pub use Rattle.pb_outside.specs.Outside
pub use Rattle.pb_outside.specs.Saves
pub use Rattle.pb_packed.specs.Digits
pub use Rattle.pb_packed.specs.Sizes
pub mod Saved
