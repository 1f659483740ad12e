-- What proofs of other crates may cite. All else in proofs/ is private to this crate.
pub use Rattle.pb_workers.proofs.Ended.{best_end, store_is}
pub use Rattle.pb_workers.proofs.Sharing.{at_work, brought, leased_then, of_search, watched, work_active}
