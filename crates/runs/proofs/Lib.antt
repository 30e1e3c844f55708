mod Starters
mod Whole
