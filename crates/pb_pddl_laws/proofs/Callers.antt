-- What proofs of other crates may cite. All else in proofs/ is private to this crate.
pub use Rattle.pb_pddl_laws.proofs.Faults.{domain_fault, domain_told, problem_fault, problem_told}
pub use Rattle.pb_pddl_laws.proofs.Faults.{told_domain, told_problem}
pub use Rattle.pb_pddl_laws.proofs.FormsRead.{domain_again, domain_is, problem_again, problem_is}
pub use Rattle.pb_pddl_laws.proofs.Limits.{domain_limit, problem_limit}
pub use Rattle.pb_pddl_laws.proofs.NamesAreWords.{domain_has_words, problem_has_words}
pub use Rattle.pb_pddl_laws.proofs.TokensOf.{same_tokens, texts_have_tokens}
pub use Rattle.pb_pddl_laws.proofs.Whole.{domain_is_read, fault, first, found, none, only}
pub use Rattle.pb_pddl_laws.proofs.Whole.{problem_is_read, told}
