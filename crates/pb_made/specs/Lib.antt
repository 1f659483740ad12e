pub use Rattle.pb_model.specs.Plan
pub use Rattle.pb_cert.specs.Found as CertFound
pub use Rattle.pb_search.specs.Searches
pub use Rattle.pb_task.specs.Parts
pub mod Made
pub mod Found
pub mod Answers
