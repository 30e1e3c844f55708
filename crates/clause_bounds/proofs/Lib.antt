pub mod Weights
pub mod Groups
pub mod Symmetry
pub mod Variables
pub mod Bounds
