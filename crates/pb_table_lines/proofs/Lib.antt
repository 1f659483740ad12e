pub mod Callers
mod Spelled
mod States
mod Sixteens
mod Loops
mod Counted
mod Written
mod Readable
mod ReadBack
mod Suiting
mod Readers
mod TableReaders
mod Refused
mod Numbered
mod Examples
