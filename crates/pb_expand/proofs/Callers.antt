-- What proofs of other crates may cite. All else in proofs/ is private to this crate.
pub use Rattle.pb_expand.proofs.Known.{out_on}
