pub mod Callers
mod Shifts
mod WordLists
mod Comparing
mod Zeros
mod Above
mod HexDigits
mod Fields
mod DigitLaws
