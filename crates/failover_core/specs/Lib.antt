pub mod State
pub mod Choice
pub mod Laws
