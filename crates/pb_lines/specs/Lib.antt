pub mod Words
pub mod ShortNumbers
pub mod Laws
