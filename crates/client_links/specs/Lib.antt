pub mod Links
pub mod Feeding
pub mod Switching
pub mod Awaited
