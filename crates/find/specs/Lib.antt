pub mod Candidates
pub mod Refused
