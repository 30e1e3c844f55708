pub mod Carried
pub mod Classes
pub mod Composed
pub mod Lifted
pub mod Renamed
pub mod Small
