-- The lemmas that the proofs of other crates may cite.
pub use Rattle.pb_lists.proofs.AgainOpened.{reopened_found}
