pub mod Bounds
mod Cones
pub mod Dependence
mod Sums
