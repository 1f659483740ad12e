-- What proofs of other crates may cite. All else in proofs/ is private to this crate.
pub use Rattle.pb_grid.proofs.Parting.{keeps, no_lines, no_words, split_some}
