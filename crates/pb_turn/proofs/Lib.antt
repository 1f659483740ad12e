pub mod Callers
mod PassLists
mod Keeping
