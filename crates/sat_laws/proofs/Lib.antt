pub mod Literals
pub mod Trails
pub mod Weights
pub mod Clauses
pub mod Minimization
pub mod Growth
pub mod Reduction
pub mod Runs
