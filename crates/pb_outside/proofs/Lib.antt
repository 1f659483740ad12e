pub mod Callers
mod Kept
mod Known
mod Places
mod Saves
mod Told
mod Untold
mod Walks
