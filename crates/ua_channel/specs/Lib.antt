pub mod State
pub mod Hearing
pub mod Orders
pub mod Node
pub mod Connections
pub mod Messages
pub mod Arriving
pub mod Sharing
