-- What proofs of other crates may cite. All else in proofs/ is private to this crate.
pub use Rattle.pb_tables.proofs.Admissible.{tables_are_admissible}
pub use Rattle.pb_tables.proofs.Estimating.{estimates_are_small}
pub use Rattle.pb_tables.proofs.Written.{images_small, suiting_written}
