pub mod Callers
mod Order
mod Parts
mod Filing
mod First
mod Entries
mod Tables
mod AgainOpened
mod Examples
