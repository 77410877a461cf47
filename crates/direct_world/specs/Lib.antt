pub mod Acts
pub mod History
pub mod Lives
pub mod Plain
pub mod Server
pub mod Shape
pub mod State
pub mod World
