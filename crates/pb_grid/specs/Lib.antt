pub mod Lines
pub mod Reading
pub mod Form
pub mod Cases
pub mod Laws
