pub mod Networks
pub mod Tables
pub mod Columns
pub mod Questions
pub mod Normal
pub mod Refusals
pub mod Rules
pub mod Text
