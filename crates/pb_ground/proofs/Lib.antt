pub mod Callers
mod Agreeing
mod Finding
mod Gathering
mod Halting
mod Indexing
mod Keeping
mod Membership
mod Once
mod Products
mod Rising
mod Rows
mod Sorted
mod Stepping
mod WorkedRows
