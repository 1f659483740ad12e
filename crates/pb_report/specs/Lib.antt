pub use Rattle.pb_model.specs.Texts as ModelTexts
pub use Rattle.pb_task.specs.Parts
pub mod Texts
