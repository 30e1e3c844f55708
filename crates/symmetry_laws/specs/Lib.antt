pub mod Inputs
pub mod Symmetry
