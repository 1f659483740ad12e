-- What proofs of other crates may cite. All else in proofs/ is private to this crate.
pub use Rattle.pb_outside.proofs.Saves.{added_begun, added_written, all_called, all_written}
pub use Rattle.pb_outside.proofs.Saves.{begun_calls, failed_calls, failed_more, part_appended}
pub use Rattle.pb_outside.proofs.Saves.{part_of_more, told_now}
pub use Rattle.pb_outside.proofs.Told.{all_then, on_err, on_ok_both, others_then, told_as}
pub use Rattle.pb_outside.proofs.Told.{told_both, told_then}
