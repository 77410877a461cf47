pub mod Entries
pub mod Holding
pub mod Parts
pub mod Steps
pub mod Window
