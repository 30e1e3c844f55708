pub mod Columns
pub mod Limits
pub mod Placed
pub mod Prefixes
