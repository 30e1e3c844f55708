pub mod Formulas
pub mod Trails
pub mod Steps
pub mod Runs
