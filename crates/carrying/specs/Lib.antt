pub mod Answers
pub mod Renaming
