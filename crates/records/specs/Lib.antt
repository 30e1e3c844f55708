pub mod Records
pub mod Reading
pub mod Parts
pub mod Faults
