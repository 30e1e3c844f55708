pub mod Columns
pub mod Ended
pub mod Extended
pub mod Fits
pub mod Found
pub mod Limited
pub mod Places
pub mod Prefixes
pub mod Pruned
mod Values
pub mod WithoutGates
