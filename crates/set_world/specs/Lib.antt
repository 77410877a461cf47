pub mod Texts
pub mod Bytes
pub mod State
pub mod Flight
pub mod Worlds
