-- What proofs of other crates may cite. All else in proofs/ is private to this crate.
pub use Rattle.pb_tiles.proofs.Spelled.{blank_front}
