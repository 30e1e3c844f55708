mod Gates
mod Places
pub mod Spelled
mod Whole
pub mod Steps
