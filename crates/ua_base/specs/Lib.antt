pub mod Duration
pub mod Modes
pub mod Number
pub mod Status
