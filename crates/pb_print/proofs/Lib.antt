pub mod Callers
mod Lines
mod Files
mod SavedCalls
mod Numbered
