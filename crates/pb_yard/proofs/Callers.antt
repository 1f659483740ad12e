-- What proofs of other crates may cite. All else in proofs/ is private to this crate.
pub use Rattle.pb_yard.proofs.Causes.{block_known, brought_opened, none_here, none_left}
pub use Rattle.pb_yard.proofs.Causes.{cannot_go_on, still_first}
pub use Rattle.pb_yard.proofs.Closing.{closed_in_order}
pub use Rattle.pb_yard.proofs.Few.{runs_are_short}
pub use Rattle.pb_yard.proofs.InTime.{GrantsNone, end_grants_none, ending_grants_none}
pub use Rattle.pb_yard.proofs.InTime.{events_of_moves, in_time_events, in_time_is_run, in_time_on}
pub use Rattle.pb_yard.proofs.InTime.{end_rooms, ending_rooms, in_time_one, rooms_on}
pub use Rattle.pb_yard.proofs.Marking.{marked_share, others_have_none, turn_on}
pub use Rattle.pb_yard.proofs.Meaning.{begins, history, leased}
pub use Rattle.pb_yard.proofs.Passing.{begins_without_room}
pub use Rattle.pb_yard.proofs.Reading.{more_read, reads_it}
pub use Rattle.pb_yard.proofs.Reports.{other_ends_have_no_report}
pub use Rattle.pb_yard.proofs.Steps.{AreTimely, MayReturn, may_cause, off_timely, plain_timely}
pub use Rattle.pb_yard.proofs.Told.{end_none_off, ended_end, ending_none_off, ends_are_seen}
pub use Rattle.pb_yard.proofs.Told.{keeps_on, leased_active, leased_keeps, may_bring, own_none_off}
pub use Rattle.pb_yard.proofs.Told.{released_keeps, released_ready, signing_off_is_seen}
pub use Rattle.pb_yard.proofs.Told.{switch_gives, switch_keeps, switched_active}
