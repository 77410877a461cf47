pub mod Places
pub mod Asking
pub mod Saying
pub mod Having
