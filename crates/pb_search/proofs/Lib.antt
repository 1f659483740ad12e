pub mod Callers
mod Marks
mod Leaves
mod Ending
mod Clauses
mod Closed
mod GoingOn
