pub mod Coverage
pub mod Order
