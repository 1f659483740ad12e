-- What proofs of other crates may cite. All else in proofs/ is private to this crate.
pub use Rattle.pb_bundles.proofs.ByKey.{betters_are_by_key, first_choices_are_by_key}
pub use Rattle.pb_bundles.proofs.ByKey.{opened_is_by_key, rivals_are_by_key}
pub use Rattle.pb_bundles.proofs.ByRows.{among_found, changes_are_apart, keys_at_home_are_best}
pub use Rattle.pb_bundles.proofs.ByRows.{noted_keys_are_best, taken_places_are_vacant}
pub use Rattle.pb_bundles.proofs.Lists.{by_found, past, set_at, some_within}
pub use Rattle.pb_bundles.proofs.Moving.{put_back_at, put_back_length, vacated_length}
pub use Rattle.pb_bundles.proofs.Opening.{opening_rows_are_home}
pub use Rattle.pb_bundles.proofs.Orders.{best_more, best_same}
