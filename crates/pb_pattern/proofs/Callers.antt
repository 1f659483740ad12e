-- What proofs of other crates may cite. All else in proofs/ is private to this crate.
pub use Rattle.pb_pattern.proofs.Values.{patterns_are_admissible}
