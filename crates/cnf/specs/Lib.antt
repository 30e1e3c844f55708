pub mod Variables
pub mod Clauses
pub mod Meaning
pub mod Numbers
pub mod Text
pub mod Rules
