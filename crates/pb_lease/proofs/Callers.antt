-- What proofs of other crates may cite. All else in proofs/ is private to this crate.
pub use Rattle.pb_lease.proofs.AfterWork.{offers_more, offers_next, status_rows, store_is}
pub use Rattle.pb_lease.proofs.Changed.{changes, fewer_opened, has_opened, if_err, if_ok}
pub use Rattle.pb_lease.proofs.Changed.{known_offered, new_offered, offered, on_err, on_ok, own_is}
pub use Rattle.pb_lease.proofs.Changed.{status_set, unchanged}
pub use Rattle.pb_lease.proofs.GraphBasics.{all_rows, passes_from, passes_to, setup_is}
pub use Rattle.pb_lease.proofs.Holders.{ended_else, leased_else, released_else, stays_of_graph}
pub use Rattle.pb_lease.proofs.InOrder.{keeps_in_order, leases_in_order, releases_in_order}
pub use Rattle.pb_lease.proofs.InOrder.{renews_in_order}
pub use Rattle.pb_lease.proofs.MomentReturns.{ending_leases}
pub use Rattle.pb_lease.proofs.MomentsStay.{bound_taken, events_leave_others, none_out_is_moment}
pub use Rattle.pb_lease.proofs.Same.{changes_on, lesser_other, none_below, same_changed, same_none}
pub use Rattle.pb_lease.proofs.Same.{same_on, same_places, still_there}
pub use Rattle.pb_lease.proofs.WorkedOut.{worked_leases_are_out}
