pub mod Messages
pub mod Showing
