pub mod Callers
mod Lists
mod Moving
mod Noting
mod Orders
mod Trees
mod Kept
mod ByKey
mod ByRows
mod Opening
mod Distinct
mod Worked
mod AllOpened
