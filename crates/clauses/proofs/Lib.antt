pub mod Takings
mod Uses
