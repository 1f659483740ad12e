-- What proofs of other crates may cite. All else in proofs/ is private to this crate.
pub use Rattle.pb_check.proofs.Completeness.{gives_accepted}
