pub mod Callers
mod Firsts
mod Turned
mod Known
mod Listed
mod Watched
