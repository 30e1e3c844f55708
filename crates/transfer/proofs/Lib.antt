mod Parts
mod Written
