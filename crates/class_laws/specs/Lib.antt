pub mod Renaming
pub mod Lifting
pub mod Ways
pub mod Classes
