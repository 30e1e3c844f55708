pub mod Satisfy
pub mod Exact
pub mod Listed
mod Inputs
pub mod Numbered
