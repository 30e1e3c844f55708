pub mod Counting
pub mod Exact
