pub mod Callers
mod Letters
mod Keeping
mod Passing
mod Splitting
mod Meeting
mod Opening
mod Posting
mod Emptiness
