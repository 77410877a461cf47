pub mod Life
pub mod Choosing
pub mod Windows
