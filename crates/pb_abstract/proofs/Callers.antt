-- What proofs of other crates may cite. All else in proofs/ is private to this crate.
pub use Rattle.pb_abstract.proofs.Has.{interferes_known}
pub use Rattle.pb_abstract.proofs.Members.{any_of, has_contains}
pub use Rattle.pb_abstract.proofs.Sizes.{graph_is}
pub use Rattle.pb_abstract.proofs.Unique.{graphs_are_unique}
pub use Rattle.pb_abstract.proofs.Walking.{abstract_graphs_are_blocks}
