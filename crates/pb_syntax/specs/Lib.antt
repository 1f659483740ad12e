pub use Rattle.pb_pddl.specs.Grammar
pub use Rattle.pb_pddl.specs.Reading
pub use Rattle.pb_pddl.specs.Readings
pub use Rattle.pb_pddl.specs.Trees
pub use Rattle.pb_pddl.specs.Words
pub use Rattle.pb_pddl_laws.specs.Table
pub mod Forms
