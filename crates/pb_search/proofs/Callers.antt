-- What proofs of other crates may cite. All else in proofs/ is private to this crate.
pub use Rattle.pb_search.proofs.Leaves.{leaves_quiet, search_stops, quiet_end, search_ends}
