-- What proofs of other crates may cite. All else in proofs/ is private to this crate.
pub use Rattle.pb_mail.proofs.Posting.{letters_to_append, posted_none, posted_same, posted_send}
pub use Rattle.pb_mail.proofs.Posting.{posted_take}
