-- What proofs of other crates may cite. All else in proofs/ is private to this crate.
pub use Rattle.pb_cert.proofs.Shown.{shown_rows_can_be_traced}
pub use Rattle.pb_cert.proofs.QuietEnds.{HasLines, IsValidFor, can_be_traced, is_certificate, no_plan}
pub use Rattle.pb_cert.proofs.QuietEnds.{states_certificate, traced_plan, walk_actions, walk_length}
