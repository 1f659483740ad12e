-- What proofs of other crates may cite. All else in proofs/ is private to this crate.
pub use Rattle.pb_hashed.proofs.Agreed.{agreed_is_sound}
pub use Rattle.pb_hashed.proofs.Rounds.{broken_append, comes_append, expansions_append}
pub use Rattle.pb_hashed.proofs.Rounds.{rounds_are_work}
pub use Rattle.pb_hashed.proofs.Soundness.{mail_keeps_sound}
