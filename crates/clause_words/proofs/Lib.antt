pub mod Stored
pub mod Models
pub mod WellFormed
