mod Folds
mod Values
mod Keys
mod Steps
