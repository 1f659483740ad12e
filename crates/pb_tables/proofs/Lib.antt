pub mod Callers
mod Words
mod AtomSets
mod Searches
mod Imaging
mod Admissible
mod Halving
mod FlatNumbers
mod Estimating
mod Written
mod Firsts
mod Paying
mod Examples
