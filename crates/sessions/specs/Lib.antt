pub mod Token
pub mod Session
pub mod State
pub mod Table
pub mod Calls
pub mod Sound
