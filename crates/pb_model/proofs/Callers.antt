-- What proofs of other crates may cite. All else in proofs/ is private to this crate.
pub use Rattle.pb_model.proofs.Backing.{costs_never_rise, goal_still, goal_within}
pub use Rattle.pb_model.proofs.Backing.{incumbents_are_backed}
pub use Rattle.pb_model.proofs.Certificates.{quiet_stores_certify, valid_certificates_hold}
pub use Rattle.pb_model.proofs.Effects.{Change, Effect, fresh, keeps_within, marked, same}
pub use Rattle.pb_model.proofs.Incumbents.{at_most_self, at_most_trans, cut_still, goal_may_be_cut}
pub use Rattle.pb_model.proofs.Incumbents.{lesser_at_most, lesser_below, lesser_cases, lesser_falls}
pub use Rattle.pb_model.proofs.Incumbents.{lesser_same, some_number}
pub use Rattle.pb_model.proofs.Keys.{best_keys_are_unique, key_cases, not_both_before}
pub use Rattle.pb_model.proofs.Locality.{broken_append, comes_append, never_reopens, reopens_append}
pub use Rattle.pb_model.proofs.Locality.{row_outside, weights_stay, work_goes_on, work_is_local}
pub use Rattle.pb_model.proofs.Offers.{IsFresh, Left, offers_cover, offers_leave, offers_push}
pub use Rattle.pb_model.proofs.Offers.{own_place, place_of, some_row}
pub use Rattle.pb_model.proofs.Shown.{quiet_incumbents_hold}
pub use Rattle.pb_model.proofs.Soundness.{work_keeps_sound}
pub use Rattle.pb_model.proofs.Successors.{IsStep, all_more, all_take, are_steps, each_step}
pub use Rattle.pb_model.proofs.Successors.{steps_are_successors}
pub use Rattle.pb_model.proofs.Tests.{and_swap, and_true, below, by_cases, equal, equal_self}
pub use Rattle.pb_model.proofs.Tests.{equal_swap, none_found, none_tested, not_below, not_both}
pub use Rattle.pb_model.proofs.Tests.{not_false, not_true, or_false, or_true, some_found}
pub use Rattle.pb_model.proofs.Tracing.{goals_are_plans}
