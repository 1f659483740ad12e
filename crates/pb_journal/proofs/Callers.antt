-- What proofs of other crates may cite. All else in proofs/ is private to this crate.
pub use Rattle.pb_journal.proofs.Faulty.{refused_lines_are_first}
