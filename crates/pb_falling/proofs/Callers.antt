-- What proofs of other crates may cite. All else in proofs/ is private to this crate.
pub use Rattle.pb_falling.proofs.Claims.{claims_hold, kept_is_plan, kept_costs}
pub use Rattle.pb_falling.proofs.Runs.{all_weights, claim_runs, claims_before, claims_grow, one_more_weight}
pub use Rattle.pb_falling.proofs.Runs.{run_after, runs_go_on, some_run}
pub use Rattle.pb_falling.proofs.Weights.{weights_fall}
