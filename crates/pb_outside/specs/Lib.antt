pub mod Outside
pub mod Calls
pub mod Memory
pub mod Streams
pub mod Saves
pub mod Laws
