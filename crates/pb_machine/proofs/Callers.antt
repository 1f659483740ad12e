-- What proofs of other crates may cite. All else in proofs/ is private to this crate.
pub use Rattle.pb_machine.proofs.Choosing.{not_both_come}
pub use Rattle.pb_machine.proofs.Counters.{busy_is_counted, counters_begin_at_none, counters_fit}
pub use Rattle.pb_machine.proofs.Counters.{events_change_busy, hot_is_counted}
pub use Rattle.pb_machine.proofs.Counters.{interference_is_mutual, marks_change_hot}
pub use Rattle.pb_machine.proofs.CountsLaws.{counts_same, event_keeps, grant_of, none_end}
pub use Rattle.pb_machine.proofs.CountsLaws.{none_leased, none_out_none_hot, none_true}
pub use Rattle.pb_machine.proofs.CountsLaws.{opening_lawful, passes, releases_cool_near}
pub use Rattle.pb_machine.proofs.CountsLaws.{rest_passes, some_is, within}
pub use Rattle.pb_machine.proofs.EndsTold.{all_off_none_out, ends_are_told, ends_stand}
pub use Rattle.pb_machine.proofs.EndsTold.{histories_have_any_weight}
pub use Rattle.pb_machine.proofs.Histories.{first_may, histories_are_lawful, histories_grow}
pub use Rattle.pb_machine.proofs.Histories.{replay_first, signed_off_is_finished}
pub use Rattle.pb_machine.proofs.Histories.{signing_off_is_told, some_counts, spent_is_used}
pub use Rattle.pb_machine.proofs.Histories.{used_fits_budget}
pub use Rattle.pb_machine.proofs.Holding.{first_views_are_true, holding_keeps_views}
pub use Rattle.pb_machine.proofs.Holding.{last_views_sign_off, last_views_tell_all}
pub use Rattle.pb_machine.proofs.Known.{known_more, known_new, lesser_one}
pub use Rattle.pb_machine.proofs.LeaseTurns.{lease_turns_go_on, ordered_runs_are_runs, runs_go_on}
pub use Rattle.pb_machine.proofs.LeaseWork.{lease_work_goes_on, lease_work_stays, merged, row_there}
pub use Rattle.pb_machine.proofs.LeaseWork.{works_there}
pub use Rattle.pb_machine.proofs.LegalEvents.{chosen_leases_are_legal, chosen_renewals_are_legal}
pub use Rattle.pb_machine.proofs.LegalEvents.{ends_are_legal, leases_are_of_workers}
pub use Rattle.pb_machine.proofs.LegalEvents.{marks_are_legal, releases_are_legal}
pub use Rattle.pb_machine.proofs.LegalEvents.{sign_offs_are_legal}
pub use Rattle.pb_machine.proofs.ListTables.{defaults, item_is, table_at, written_else}
pub use Rattle.pb_machine.proofs.ListTables.{written_here}
pub use Rattle.pb_machine.proofs.Meeting.{meeting_keeps_views}
pub use Rattle.pb_machine.proofs.MomentLaws.{budget_ends_are_spent, costs_fit, incumbents_are_plans}
pub use Rattle.pb_machine.proofs.MomentLaws.{journals_are_histories, known_stays}
pub use Rattle.pb_machine.proofs.MomentLaws.{lawful_stores_are_sound, lease_costs_fit}
pub use Rattle.pb_machine.proofs.MomentLaws.{none_out_is_shown, quiet_ends_are_best}
pub use Rattle.pb_machine.proofs.MomentLaws.{scopes_are_apart}
pub use Rattle.pb_machine.proofs.Moments.{moves_keep_lawful, opening_is_lawful, runs_are_lawful}
pub use Rattle.pb_machine.proofs.MovedRooms.{has_room_more}
pub use Rattle.pb_machine.proofs.MovedRooms.{room_with_less}
pub use Rattle.pb_machine.proofs.OwnMoves.{none_out_untold, others_are_left, recorded_where_leased}
pub use Rattle.pb_machine.proofs.Places.{all_append}
pub use Rattle.pb_machine.proofs.Reports.{broken_more}
pub use Rattle.pb_machine.proofs.Rooms.{journals_are_short, room_goes_on}
pub use Rattle.pb_machine.proofs.Splitting.{splitting_keeps_views}
pub use Rattle.pb_machine.proofs.TableLaws.{any_at, any_false, any_none, any_same, any_some}
pub use Rattle.pb_machine.proofs.TableLaws.{entry_else, entry_here, none_counted, one_small}
pub use Rattle.pb_machine.proofs.TableLaws.{sum_small, sum_with_entry}
pub use Rattle.pb_machine.proofs.WholeStore.{all_is_home, leased_block, leasing_keeps_whole}
pub use Rattle.pb_machine.proofs.WholeStore.{others_keep_whole, recorded_rows_are_lent}
pub use Rattle.pb_machine.proofs.WholeStore.{releasing_keeps_whole, renewing_keeps_whole}
