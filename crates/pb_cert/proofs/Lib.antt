pub mod Callers
mod Shown
mod Back
mod Distinct
mod Goals
mod LineTexts
mod Respelled
mod GoodLines
mod LinesAnew
mod Parts
mod Sorted
mod Places
mod QuietEnds
mod Unique
