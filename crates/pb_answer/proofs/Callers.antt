-- What proofs of other crates may cite. All else in proofs/ is private to this crate.
pub use Rattle.pb_answer.proofs.ByNames.{accepted_by_names, none_by_names, solved_by_names}
pub use Rattle.pb_answer.proofs.ByNames.{AreTask, by_trees, texts_by_names, plan_by_names, none_below_by_names, no_named_plan}
pub use Rattle.pb_answer.proofs.FallingBegins.{quiet_rows_of}
pub use Rattle.pb_answer.proofs.FallingFound.{all_found, claim_handed_out}
pub use Rattle.pb_answer.proofs.FallingNames.{names_of, run_names, IsFileOfRun, SavesAtMost, AreOfFirstRuns}
pub use Rattle.pb_answer.proofs.FallingNames.{claim_file, none_file, now_saves, now_status, claims_names, names_of_first, names_of_found, found_status}
pub use Rattle.pb_answer.proofs.FallingClaims.{no_claims, claim_at, costs_fall_at, part_says, as_many_parts}
pub use Rattle.pb_answer.proofs.InputKinds.{input_kind, input_grounding}
pub use Rattle.pb_answer.proofs.SameBlocks.{without_swamp}
pub use Rattle.pb_answer.proofs.SavedJournals.{SavesJournal, of_quiet, of_stopped}
pub use Rattle.pb_answer.proofs.Spelled.{never_refused, of_grid, of_tiles}
pub use Rattle.pb_answer.proofs.Reports.{IsFree, AreFree, split, decimal_free, lines_tell}
pub use Rattle.pb_answer.proofs.SolveTask.{no_file, task_read, none_given}
