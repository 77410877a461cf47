pub mod Limits
pub mod Faithful
pub mod Below
