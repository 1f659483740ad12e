pub mod Words
pub mod Said
pub mod Reading
pub mod Spelling
pub mod Cases
pub mod Laws
