-- What proofs of other crates may cite. All else in proofs/ is private to this crate.
pub use Rattle.pb_turn.proofs.PassLists.{Some_same, each_set, each_snoc, map_at, map_set, map_snoc}
pub use Rattle.pb_turn.proofs.PassLists.{put_there, sum_set, sum_snoc}
