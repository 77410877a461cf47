pub mod Logs
pub mod Rising
pub mod Readiness
pub mod Choices
pub mod Switches
pub mod Holding
