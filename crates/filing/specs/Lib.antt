pub mod Filing
pub mod Props
