pub mod Again
mod Asking
pub mod Bounds
