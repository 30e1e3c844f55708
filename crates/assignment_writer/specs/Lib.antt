pub mod Writing
pub mod Said
pub mod Uses
