mod Writing
mod Parts
mod Said
mod Nodes
mod Uses
mod Whole
