-- What proofs of other crates may cite. All else in proofs/ is private to this crate.
pub use Rattle.pb_print.proofs.Lines.{lines-append, lines-last}
pub use Rattle.pb_print.proofs.Numbered.{get_right, puts_left, puts_right, short_enough}
