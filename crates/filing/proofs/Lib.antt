pub mod Carried
mod Placed
