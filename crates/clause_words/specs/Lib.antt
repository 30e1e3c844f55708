pub mod Codes
pub mod Stored
pub mod Laws
