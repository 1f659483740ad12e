pub use Rattle.pb_pddl.specs.Grammar
pub use Rattle.pb_pddl.specs.Places
pub use Rattle.pb_pddl.specs.Reading
pub use Rattle.pb_pddl.specs.Readings
pub use Rattle.pb_pddl.specs.Tokens
pub use Rattle.pb_pddl.specs.Trees
pub use Rattle.pb_pddl.specs.Words
pub mod Table
