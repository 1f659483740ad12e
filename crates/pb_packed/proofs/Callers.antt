-- What proofs of other crates may cite. All else in proofs/ is private to this crate.
pub use Rattle.pb_packed.proofs.DigitLaws.{digits_are_hex}
pub use Rattle.pb_packed.proofs.HexDigits.{followed, no_digits, one_more}
pub use Rattle.pb_packed.proofs.WordLists.{set_words}
pub use Rattle.pb_packed.proofs.Zeros.{above_are_zero, same_words}
