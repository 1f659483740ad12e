-- What proofs of other crates may cite. All else in proofs/ is private to this crate.
pub use Rattle.pb_make_laws.proofs.BlocksTasks.{made_problems_are_tasks}
pub use Rattle.pb_make_laws.proofs.SpelledBoards.{made_boards_are_spelled}
pub use Rattle.pb_make_laws.proofs.SpelledMaps.{made_maps_are_spelled}
