-- What proofs of other crates may cite. All else in proofs/ is private to this crate.
pub use Rattle.pb_ground.proofs.Membership.{atoms_are, instances_are, no_empty, none_before}
pub use Rattle.pb_ground.proofs.Membership.{with_first}
pub use Rattle.pb_ground.proofs.Keeping.{all_atoms, all_atoms_are_a_case, kept_among}
pub use Rattle.pb_ground.proofs.Products.{product_is}
pub use Rattle.pb_ground.proofs.Rising.{atoms_rise}
pub use Rattle.pb_ground.proofs.Rows.{has_more}
pub use Rattle.pb_ground.proofs.Sorted.{above_member, any_kept, keys_ascend, same_rows, set_has}
pub use Rattle.pb_ground.proofs.Stepping.{correspond, kept, kept_correspond, numbers_alike, one_atom}
