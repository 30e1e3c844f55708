pub mod Exist
mod Fronts
pub mod Gates
pub mod Neighbours
pub mod Pruning
mod Removed
pub mod Renumbered
mod Swapped
pub mod Uses
