mod Changes
pub mod Keys
mod Places
mod Searched
pub mod Tables
