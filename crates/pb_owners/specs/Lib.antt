pub use Rattle.pb_hashed.specs.Mailed
pub use Rattle.pb_hashed.specs.MailWork
pub use Rattle.pb_owner.specs.Plans as OwnerPlans
pub use Rattle.pb_owner.specs.Shares as OwnerShares
pub mod Plans
pub mod Seats
pub mod Passing
pub mod Halves
pub mod Rounds
pub mod RoundRule
pub mod Between
pub mod Shares
pub mod Owners
pub mod Leaves
pub mod Laws
