pub mod Requests
pub mod Readying
pub mod Rules
pub mod Again
