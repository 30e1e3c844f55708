pub mod Numbering
pub mod Choices
pub mod Pairs
pub mod Uses
