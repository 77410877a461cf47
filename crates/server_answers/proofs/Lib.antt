pub mod Places
pub mod Putting
pub mod Ending
pub mod Turning
pub mod Repeating
