pub mod State
pub mod Nodes
pub mod Slots
pub mod Moves
pub mod Rounds
pub mod World
