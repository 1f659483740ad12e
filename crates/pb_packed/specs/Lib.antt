pub mod Sizes
pub mod Words
pub mod Forms
pub mod Bits
pub mod Digits
pub mod Laws
