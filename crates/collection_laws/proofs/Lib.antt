mod Tables
pub mod Questions
pub mod Orders
pub mod Law
