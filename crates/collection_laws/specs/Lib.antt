pub mod Calls
pub mod Loads
pub mod Runs
pub mod Law
pub mod Opening
pub mod Faults
