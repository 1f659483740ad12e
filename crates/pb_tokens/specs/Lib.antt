pub use Rattle.pb_pddl.specs.Spans
pub use Rattle.pb_pddl.specs.Tokens
