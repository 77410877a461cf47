pub mod Turns
pub mod Repeats
