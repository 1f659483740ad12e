pub use Rattle.pb_model.specs.Key
pub use Rattle.pb_model.specs.Space
pub use Rattle.pb_model.specs.Store as ModelStore
pub use Rattle.pb_model.specs.Weight
pub use Rattle.pb_model.specs.Work
pub mod Bundle
pub mod Offers
pub mod Laws
pub mod Heaped
pub mod Buckets
pub mod Fields
pub mod NarrowRow
pub mod ListedRows
pub mod Rows
pub mod Store
pub mod Reopened
