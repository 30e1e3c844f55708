pub mod Steps
pub mod Shapes
