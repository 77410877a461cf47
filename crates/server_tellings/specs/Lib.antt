pub mod Heard
pub mod Carried
pub mod Again
