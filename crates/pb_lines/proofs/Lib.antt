pub mod Callers
mod NumberWords
mod Numbers
mod ShortNumbers
mod Parts
mod Places
mod Joined
