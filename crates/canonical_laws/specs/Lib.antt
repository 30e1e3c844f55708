pub mod Canonical
pub mod Neighbours
